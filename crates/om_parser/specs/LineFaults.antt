-- Where lines of a source are refused with another code than that of syntax.
use Rattle.std.specs.Prelude.{ℕ, List}
use Rattle.om_lexer.specs.declared.fault.SourceFault.{SourceFault}
use Rattle.om_lexer.specs.declared.token.Token.{Token}
use Rattle.om_parser.specs.BlockLineFaults.{HasLine}
use Rattle.om_parser_parts.specs.WrongLines.{IsPassedInClause}
use Rattle.om_pragma.specs.Refusals.{IsWordFault}
use Rattle.om_parser_tree.specs.Formed.{IsUnit}
use Rattle.om_parser_tree.specs.Limits.{Limits}
use Rattle.om_parser_tree.specs.Spelling.{unit_spelling}

-- A limit is passed at this place, in a clause of a line of the source.
pub record IsPassedInLine (l : Limits) (tokens : List Token) (place : ℕ) : Type 0 where
  pub line : List Token
  pub has_line : HasLine unit_spelling IsUnit tokens line
  pub passed : IsPassedInClause l line place

-- In a line of the source, S5 or S6 stands at this place.
pub record IsRefusedLine (tokens : List Token) (f : SourceFault) : Type 0 where
  pub line : List Token
  pub has_line : HasLine unit_spelling IsUnit tokens line
  pub refused : IsWordFault line f.code f.at
