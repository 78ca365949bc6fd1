-- The refusal of a source. That the tokens alone decide it is what is promised; how reading from the left finds it is
-- a matter of proofs.
use Rattle.std.specs.Prelude.{◌≡◌, ◌⊎◌, List, Option, Some, None, Ok, Err}
use Rattle.om_lexer.specs.Faults.{no_memory}
use Rattle.om_lexer.specs.declared.fault.SourceFault.{SourceFault}
use Rattle.om_lexer.specs.declared.token.Token.{Token}
use Rattle.om_parser_parts.specs.Reading.{Outcome}
use Rattle.om_parser.specs.UnitReading.{unit_at}
use Rattle.om_parser_tree.specs.Limits.{accepted}
use Rattle.om_parser_tree.specs.Tree.{UnitTree}

-- why nothing was read
abbrev pub refused : Outcome UnitTree → Option SourceFault
refused (Ok unit) = None
refused (Err fault) = Some fault

-- the refusal of these tokens, if they are no accepted source: where reading from the left stops first (C17 6.9)
abbrev pub refusal_of : List Token → Option SourceFault
refusal_of tokens = refused (unit_at accepted tokens)

-- this fault is their refusal, unless memory ran out
abbrev pub IsRefusalOrMemory : List Token → SourceFault → Type 0
IsRefusalOrMemory tokens fault = (fault ≡ no_memory) ⊎ (refusal_of tokens ≡ Some fault)
