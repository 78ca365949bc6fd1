-- Expressions in the parentheses of clauses, whether the tokens are a directive or not.
use Rattle.std.specs.Prelude.{◌≡◌, ℕ, ◌<◌, ◌≤◌, List, ◌∷◌, ◌++◌, length}
use Rattle.om_lexer.specs.declared.token.Punctuator.TheVariants as punctuators
use Rattle.om_lexer.specs.declared.token.Span.{Span}
use Rattle.om_lexer.specs.declared.token.Token.{Token}
use Rattle.om_pragma.specs.declared.clause.ValueClause.{ValueClause}
use Rattle.om_pragma.specs.Expressions.{IsClosed}
use Rattle.om_pragma.specs.Spelling.{token, mark, value_kind}
use Rattle.om_pragma.specs.Words.{clause_word}

-- behind the word of a clause with an expression these tokens stand in parentheses, all of it before that place
pub record StandsAsValue (tokens : List Token) (place : ℕ) (inside : List Token) : Type 0 where
  pub before : List Token
  pub word : ValueClause
  pub at : Span
  pub left : Span
  pub right : Span
  pub behind : List Token
  pub parts : tokens ≡ before ++ token (clause_word (value_kind word)) at ∷ mark punctuators.OpenParen left
      ∷ (inside ++ mark punctuators.CloseParen right ∷ behind)
  pub closed : IsClosed inside
  pub starts : at.start < place
  pub ends : right.start < place

-- and none stands further to the left
pub record IsFirstValue (tokens : List Token) (place : ℕ) (inside : List Token) : Type 0 where
  pub stands : StandsAsValue tokens place inside
  pub first : (other : List Token) (o : StandsAsValue tokens place other) → length stands.before ≤ length o.before
