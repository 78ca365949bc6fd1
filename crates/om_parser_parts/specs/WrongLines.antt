-- Why a directive line is refused with another code than that of syntax, and where.
use Rattle.std.specs.Prelude.{◌≡◌, ◌≢◌, ℕ, List, ◌∷◌, [], ◌++◌, ◌⊎◌, All}
use Rattle.om_lexer.specs.declared.fault.FaultCode.TheVariants as codes
use Rattle.om_lexer.specs.declared.fault.SourceFault.{SourceFault}
use Rattle.om_lexer.specs.declared.token.Punctuator.TheVariants as punctuators
use Rattle.om_lexer.specs.declared.token.Span.{Span}
use Rattle.om_lexer.specs.declared.token.Token.{Token}
use Rattle.om_lexer.specs.declared.token.TokenKind.TheVariants as kinds
use Rattle.om_pragma.specs.declared.clause.ClauseItem.{ClauseItem}
use Rattle.om_pragma.specs.declared.clause.ValueClause.{ValueClause}
use Rattle.om_pragma.specs.declared.tree.Directive.{Directive}
use Rattle.om_pragma.specs.declared.tree.DirectiveName.{DirectiveName}
use Rattle.om_pragma.specs.Refusals.{StandsClause, IsWordFault, StopsAt}
use Rattle.om_pragma.specs.Spelling.{value_kind}
use Rattle.om_pragma.specs.Table.{IsDirectiveOf}
use Rattle.om_pragma.specs.Words.{clause_word}
use Rattle.om_parser_parts.specs.LineReading.{last_start, place_behind}
use Rattle.om_parser_tree.specs.Formed.{IsExpression}
use Rattle.om_parser_tree.specs.Limits.{Limits, IsTooMuch}
use Rattle.om_parser_tree.specs.Places.{in_parentheses}
use Rattle.om_parser_tree.specs.Spelling.{token, mark, expression_spelling}
use Rattle.om_parser_tree.specs.Tree.{ExpressionTree}

-- a whole line, from its `#` to its end, which stands only last in it
pub record IsOneLine (line : List Token) : Type 0 where
  pub hash : Span
  pub inner : List Token
  pub end : Span
  pub parts : line ≡ token kinds.DirectiveBegin hash ∷ (inner ++ token kinds.DirectiveEnd end ∷ [])
  pub endless : All (λ t. t.kind ≢ kinds.DirectiveEnd) inner

-- the word of a clause with an expression
abbrev pub clause_token : ValueClause → Span → Token
clause_token k s = record { kind = clause_word (value_kind k); span = s }

-- A clause is expected in the line where these tokens stand, behind a directive's words and some of its clauses.
pub record ExpectsClause (line rest : List Token) : Type 0 where
  pub name : DirectiveName
  pub before : List (ClauseItem (List Token))
  pub stands : StandsClause line name before rest

-- no directive has these tokens
abbrev pub IsNoDirective : List Token → Type 0
IsNoDirective line = (d : Directive (List Token)) → IsDirectiveOf line d → ⊥

-- A limit is passed at this place of a line, in the parentheses of a clause: some well-formed expression begins with
-- the same tokens up to there, and with the token there, which is one too many for it or nests too deep in it. In a
-- line that is no directive, the parentheses behind any word of such a clause are meant.
pub record IsPassedInClause (l : Limits) (line : List Token) (place : ℕ) : Type 0 where
  pub before : List Token
  pub word : ValueClause
  pub at : Span
  pub left : Span
  pub expression : ExpressionTree
  pub formed : IsExpression expression
  pub begun : List Token
  pub token : Token
  pub after : List Token
  pub rest_of_expression : List Token
  pub stands : line ≡ before ++ clause_token word at ∷ mark punctuators.OpenParen left ∷ (begun ++ token ∷ after)
  pub in_clause : ExpectsClause line (clause_token word at ∷ mark punctuators.OpenParen left
      ∷ (begun ++ token ∷ after)) ⊎ IsNoDirective line
  pub in_expression : expression_spelling expression ≡ begun ++ token ∷ rest_of_expression
  pub at_place : token.span.start ≡ place
  pub too_much : IsTooMuch (in_parentheses l) begun token

-- why a line is refused with another code than that of syntax
abbrev pub IsWrongLine : Limits → List Token → SourceFault → Type 0
IsWrongLine l line f = ((f.code ≡ codes.TooDeep) × IsPassedInClause l line f.at) ⊎ IsWordFault line f.code f.at

-- ---- S3 in a line

-- S3 stands at this place, in the parentheses of a clause: no well-formed expression goes on with the token there,
-- behind the tokens from the left parenthesis to it. In a line that is no directive, the parentheses behind any word
-- of such a clause are meant.
pub record IsHaltedInClause (line : List Token) (place : ℕ) : Type 0 where
  pub before : List Token
  pub word : ValueClause
  pub at : Span
  pub left : Span
  pub begun : List Token
  pub token : Token
  pub after : List Token
  pub stands : line ≡ before ++ clause_token word at ∷ mark punctuators.OpenParen left ∷ (begun ++ token ∷ after)
  pub in_clause : ExpectsClause line (clause_token word at ∷ mark punctuators.OpenParen left
      ∷ (begun ++ token ∷ after)) ⊎ IsNoDirective line
  pub at_place : token.span.start ≡ place
  pub stops : (e : ExpressionTree) (more : List Token) → IsExpression e
      → expression_spelling e ≢ begun ++ token ∷ more

-- S3 stands at this place, behind all tokens in the parentheses of a clause, which are no well-formed expression.
pub record IsCutShortInClause (line : List Token) (place : ℕ) : Type 0 where
  pub before : List Token
  pub word : ValueClause
  pub at : Span
  pub left : Span
  pub inside : List Token
  pub after : List Token
  pub stands : line ≡ before ++ clause_token word at ∷ mark punctuators.OpenParen left ∷ (inside ++ after)
  pub in_clause : ExpectsClause line (clause_token word at ∷ mark punctuators.OpenParen left ∷ (inside ++ after))
      ⊎ IsNoDirective line
  pub at_place : place_behind (last_start inside) line ≡ place
  pub stops : (e : ExpressionTree) → IsExpression e → expression_spelling e ≢ inside

-- S3 stands at this place of a line: at the first token that no directive has there, or in the parentheses of a clause.
abbrev pub IsSyntaxLine : List Token → ℕ → Type 0
IsSyntaxLine line place = StopsAt line place ⊎ IsHaltedInClause line place ⊎ IsCutShortInClause line place
