-- Why the tokens of a source are refused by another code than that of syntax, and where.
use Rattle.std.specs.Prelude.{◌≡◌, ℕ, ◌⊎◌, true, false, List, ◌++◌}
use Rattle.om_lexer.specs.declared.fault.FaultCode.TheVariants as codes
use Rattle.om_lexer.specs.declared.fault.SourceFault.{SourceFault}
use Rattle.om_lexer.specs.declared.token.Token.{Token}
use Rattle.om_pragma.specs.declared.tree.Directive.{Directive}
use Rattle.om_pragma.specs.Questions.{is_atomic, atomic_kind, word_span}
use Rattle.om_parser_tree.specs.AtomicForms.{has_atomic_form}
use Rattle.om_parser_tree.specs.Formed.{IsLine, IsStatement, IsBody}
use Rattle.om_parser_tree.specs.Limits.{Limits}
use Rattle.om_parser.specs.BlockLineFaults.{IsLineFault}
use Rattle.om_parser_tree.specs.Places.{Place, IsPassed}
use Rattle.om_parser_tree.specs.Spelling.{statement_spelling}
use Rattle.om_parser_tree.specs.Tree.{ExpressionTree, StatementTree, Construct}

-- The tokens have an `atomic` with its word at this place, and its statement is none of its forms (OpenMP 5.2
-- section 4.3.1.3).
pub record IsBadAtomic (tokens : List Token) (place : ℕ) : Type 0 where
  pub before : List Token
  pub directive : Directive ExpressionTree
  pub statement : StatementTree
  pub after : List Token
  pub stands : tokens ≡ before ++ statement_spelling (Construct directive statement) ++ after
  pub line : IsLine directive
  pub atomic : is_atomic directive.name ≡ true
  pub formed : IsStatement statement
  pub body : IsBody statement
  pub no_form : has_atomic_form (atomic_kind directive) statement ≡ false
  pub at_place : (word_span directive.name).start ≡ place

-- why tokens that begin with such parts are refused by another code than that of syntax
abbrev pub IsStopped : {A : Type 0} → (A → List Token) → (A → Type 0) → (A → Place) → Limits → List Token
    → SourceFault → Type 0
IsStopped spelling IsFormed over l tokens f = ((f.code ≡ codes.TooDeep) × IsPassed spelling IsFormed over tokens f.at)
    ⊎ IsLineFault spelling IsFormed l tokens f
    ⊎ ((f.code ≡ codes.BadClause) × IsBadAtomic tokens f.at)
