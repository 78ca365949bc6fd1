-- How large the expressions of an accepted source are.
use Rattle.std.specs.Prelude.{◌≡◌, ℕ, ◌+◌, ◌-◌, ◌≤◌, ◌⊎◌, max, List, [], ◌∷◌, ◌++◌, length, Option, Some, None, Bool}
use Rattle.std.specs.Prelude.{true}
use Rattle.std.specs.List.{flat_map}
use Rattle.om_lexer.specs.declared.token.Punctuator.TheVariants as punctuators
use Rattle.om_lexer.specs.declared.token.Token.{Token}
use Rattle.om_lexer.specs.declared.token.TokenKind.{TokenKind}
use Rattle.om_lexer.specs.declared.token.TokenKind.TheVariants as kinds
use Rattle.om_parser_tree.specs.declared.tree.TheConstants.{NESTING_LIMIT, TOKEN_LIMIT, BLOCK_LIMIT, STATEMENT_LIMIT}
use Rattle.om_parser_tree.specs.Spelling.{expression_spelling}
use Rattle.om_parser_tree.specs.Tree.{ExpressionTree, Name, Constant, Text, Paren, Index, Call, Prefix, Postfix, Binary}
use Rattle.om_parser_tree.specs.Tree.{Conditional, Assign, ArgumentsTree, NoArguments, Argument, InitializerTree}
use Rattle.om_parser_tree.specs.Tree.{DeclaratorTree, DeclarationTree}

abbrev mutual
  -- how many parentheses and brackets stand round the innermost part
  pub nesting : ExpressionTree → ℕ
  nesting (Name n) = 0
  nesting (Constant n) = 0
  nesting (Text t) = 0
  nesting (Paren left e right) = nesting e + 1
  nesting (Index n left e right) = nesting e + 1
  nesting (Call n left values right) = arguments_nesting values + 1
  nesting (Prefix o at e) = nesting e
  nesting (Postfix e o at) = nesting e
  nesting (Binary a o at b) = max (nesting a) (nesting b)
  nesting (Conditional c question a colon b) = max (nesting c) (max (nesting a) (nesting b))
  nesting (Assign a o at b) = max (nesting a) (nesting b)

  pub arguments_nesting : ArgumentsTree → ℕ
  arguments_nesting NoArguments = 0
  arguments_nesting (Argument comma e rest) = max (nesting e) (arguments_nesting rest)

-- ---- the expressions that are no part of another one (C17 6.8, full expressions)

-- that of a declarator, which its initializer is
abbrev pub expressions_of_declarator : {I : Type 0} → DeclaratorTree I → List I
expressions_of_declarator {I} d = started d.initializer
  where
    started : Option (InitializerTree I) → List I
    started (Some i) = i.value ∷ []
    started None = []

-- those of a declaration
abbrev pub expressions_of_declaration : {I : Type 0} → DeclarationTree I → List I
expressions_of_declaration d = expressions_of_declarator d.first
    ++ flat_map (λ further. expressions_of_declarator further.1) d.rest

-- how deep parentheses may nest, how many tokens a whole expression may have, how deep blocks may nest, and how many
-- statements may stand round a statement; and whether each outermost `atomic` must have one of its forms
pub record Limits : Type 0 where
  pub nested : ℕ
  pub tokens : ℕ
  pub blocks : ℕ
  pub statements : ℕ
  pub checked : Bool

-- those of an accepted source
abbrev pub accepted : Limits
accepted = record {
  nested = NESTING_LIMIT;
  tokens = TOKEN_LIMIT;
  blocks = BLOCK_LIMIT;
  statements = STATEMENT_LIMIT;
  checked = true;
}

-- the parentheses and the tokens of an expression keep these limits
unfoldable pub IsWithin : Limits → ExpressionTree → Type 0
IsWithin l e = (nesting e ≤ l.nested) × (length (expression_spelling e) ≤ l.tokens)

-- how many parentheses and brackets stand open behind these tokens, where so many stood open before
unfoldable pub still_open : ℕ → List Token → ℕ
still_open n [] = n
still_open n (t ∷ ts) = still_open (open_after n t.kind) ts
  where
    open_after : ℕ → TokenKind → ℕ
    open_after n (kinds.Punctuator punctuators.OpenParen) = n + 1
    open_after n (kinds.Punctuator punctuators.OpenBracket) = n + 1
    open_after n (kinds.Punctuator punctuators.CloseParen) = n - 1
    open_after n (kinds.Punctuator punctuators.CloseBracket) = n - 1
    open_after n _ = n

-- a left parenthesis or bracket
abbrev pub IsOpening : TokenKind → Type 0
IsOpening k = (k ≡ kinds.Punctuator punctuators.OpenParen) ⊎ (k ≡ kinds.Punctuator punctuators.OpenBracket)

-- the token behind these of one whole expression is one too many, or a bracket that nests too deep
abbrev pub IsTooMuch : Limits → List Token → Token → Type 0
IsTooMuch l begun t = (length begun ≡ l.tokens) ⊎ (IsOpening t.kind × (still_open 0 begun ≡ l.nested))
