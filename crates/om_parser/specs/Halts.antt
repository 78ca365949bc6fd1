-- Where S3 stands in the tokens of a source.
use Rattle.std.specs.Prelude.{◌≡◌, ◌≢◌, ℕ, List, ◌∷◌, ◌++◌, ◌⊎◌}
use Rattle.om_lexer.specs.declared.fault.SourceFault.{SourceFault}
use Rattle.om_lexer.specs.declared.token.Token.{Token}
use Rattle.om_parser_parts.specs.Halting.{IsStopInLine}
use Rattle.om_parser_tree.specs.Formed.{IsUnit}
use Rattle.om_parser_tree.specs.Spelling.{unit_spelling}
use Rattle.om_parser_tree.specs.Tree.{UnitTree}

-- A token starts at this place, and no well-formed unit of any size begins with the tokens up to it and with it.
pub record IsHalted (tokens : List Token) (place : ℕ) : Type 0 where
  pub before : List Token
  pub token : Token
  pub after : List Token
  pub stands : tokens ≡ before ++ token ∷ after
  pub at_place : token.span.start ≡ place
  pub stops : (u : UnitTree) (more : List Token) → IsUnit u → unit_spelling u ≢ before ++ token ∷ more

-- Such a token stands there, or a token of a whole directive line: the first that no directive has there, or one in or
-- behind the parentheses of a clause, with which no expression goes on.
abbrev pub IsSyntaxHalt : List Token → SourceFault → Type 0
IsSyntaxHalt tokens fault = IsHalted tokens fault.at ⊎ IsStopInLine tokens fault
