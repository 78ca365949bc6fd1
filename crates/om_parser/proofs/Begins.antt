-- The token that an expression begins with begins an expression statement.
use Rattle.std.proofs.Common.{◌≡◌, List, [], ◌∷◌, ◌++◌, refl, arith, append_assoc}
use Rattle.om_lexer.specs.declared.token.Keyword.{Keyword}
use Rattle.om_lexer.specs.declared.token.Keyword.TheVariants as keywords
use Rattle.om_lexer.specs.declared.token.Punctuator.{Punctuator}
use Rattle.om_lexer.specs.declared.token.Punctuator.TheVariants as punctuators
use Rattle.om_lexer.specs.declared.token.Span.{Span}
use Rattle.om_lexer.specs.declared.token.Token.{Token}
use Rattle.om_lexer.specs.declared.token.TokenKind.{TokenKind}
use Rattle.om_lexer.specs.declared.token.TokenKind.TheVariants as kinds
use Rattle.om_parser.specs.declared.start.Start.TheVariants as starts
use Rattle.om_parser.specs.StatementReading.{start_of}
use Rattle.om_parser_tree.specs.declared.tree.PrefixOperator.{PrefixOperator}
use Rattle.om_parser_tree.specs.declared.tree.PrefixOperator.TheVariants as prefixes
use Rattle.om_parser_tree.specs.Formed.{IsExpression}
use Rattle.om_parser_tree.specs.Spelling.{token, mark, name, number, prefix_mark, expression_spelling}
use Rattle.om_parser_tree.specs.Tree.{ExpressionTree, Name, Constant, Paren, Index, Call, Prefix, Postfix, Binary, Conditional}
use Rattle.om_parser_tree.specs.Tree.{Assign}

-- a token that begins an expression stands first
pub record StartsExpression (ts : List Token) : Type 0 where
  pub first : Token
  pub behind : List Token
  pub is : ts ≡ first ∷ behind
  pub start : start_of first.kind ≡ starts.Expression

prefix_starts : (o : PrefixOperator) → start_of (kinds.Punctuator (prefix_mark o)) ≡ starts.Expression
prefix_starts prefixes.Plus = refl
prefix_starts prefixes.Minus = refl
prefix_starts prefixes.Not = refl
prefix_starts prefixes.Increment = refl
prefix_starts prefixes.Decrement = refl

-- an expression begins with a token that begins one
pub expression_starts : (e : ExpressionTree) (rest : List Token) → IsExpression e → StartsExpression
    (expression_spelling e ++ rest)
unfolding expression_spelling IsExpression
expression_starts (Name n) rest f = record { first = name n; behind = rest; is = refl; start = refl }
expression_starts (Constant n) rest f = record { first = number n; behind = rest; is = refl; start = refl }
expression_starts (Paren left e right) rest f = record {
  first = mark punctuators.OpenParen left;
  behind = _;
  is = refl;
  start = refl;
}
expression_starts (Index n left e right) rest f = record { first = name n; behind = _; is = refl; start = refl }
expression_starts (Call n left values right) rest f = record { first = name n; behind = _; is = refl; start = refl }
expression_starts (Prefix o at e) rest f = record {
  first = mark (prefix_mark o) at;
  behind = _;
  is = refl;
  start = prefix_starts o;
}
expression_starts (Postfix e o at) rest f = rw append_assoc (expression_starts e _ f.0)
expression_starts (Binary a o at b) rest f = rw append_assoc (expression_starts a _ f.0)
expression_starts (Conditional c question a colon b) rest f = rw append_assoc (expression_starts c _ f.0)
expression_starts (Assign a o at b) rest f = rw append_assoc (expression_starts a _ f.0)
expression_starts _ rest f = absurd f

-- ---- some expression begins with such a token

-- an expression that begins with this token
pub record Begins (t : Token) : Type 0 where
  pub tree : ExpressionTree
  pub formed : IsExpression tree
  pub behind : List Token
  pub spelled : expression_spelling tree ≡ t ∷ behind

zero_at : Span → ExpressionTree
zero_at s = Constant (record { value = 0; span = s })

-- an operator before a constant
prefixed : (o : PrefixOperator) (s : Span) → Begins (mark (prefix_mark o) s)
unfolding IsExpression expression_spelling zero_at
prefixed o s = record {
  tree = Prefix o s (zero_at s);
  formed = (tt, omega arith);
  behind = expression_spelling (zero_at s);
  spelled = refl;
}

begins_mark : (p : Punctuator) (s : Span) → start_of (kinds.Punctuator p) ≡ starts.Expression → Begins (mark p s)
unfolding IsExpression expression_spelling zero_at
begins_mark punctuators.OpenParen s e = record { tree = Paren s (zero_at s) s; formed = tt; behind = _; spelled = refl }
begins_mark punctuators.Plus s e = prefixed prefixes.Plus s
begins_mark punctuators.Minus s e = prefixed prefixes.Minus s
begins_mark punctuators.Bang s e = prefixed prefixes.Not s
begins_mark punctuators.PlusPlus s e = prefixed prefixes.Increment s
begins_mark punctuators.MinusMinus s e = prefixed prefixes.Decrement s
begins_mark _ s e = absurd cc

begins_word : (k : Keyword) (s : Span) → start_of (kinds.Keyword k) ≡ starts.Expression
    → Begins (token (kinds.Keyword k) s)
begins_word keywords.If s e = absurd cc
begins_word _ s e = absurd cc

pub begins_with : (k : TokenKind) (s : Span) → start_of k ≡ starts.Expression → Begins (token k s)
unfolding IsExpression expression_spelling
begins_with (kinds.Name text) s e = record {
  tree = Name (record { text = text; span = s });
  formed = tt;
  behind = [];
  spelled = refl;
}
begins_with (kinds.Constant value) s e = record {
  tree = Constant (record { value = value; span = s });
  formed = tt;
  behind = [];
  spelled = refl;
}
begins_with (kinds.Punctuator p) s e = begins_mark p s e
begins_with (kinds.Keyword k) s e = begins_word k s e
begins_with _ s e = absurd cc
