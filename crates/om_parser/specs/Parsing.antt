-- What parsing promises.
use Rattle.std.specs.Prelude.{◌≡◌, ℕ, List, ◌⊎◌, Result, Ok, Err, IfErr}
use Rattle.om_lexer.specs.declared.fault.FaultCode.{FaultCode}
use Rattle.om_lexer.specs.declared.fault.FaultCode.TheVariants as codes
use Rattle.om_lexer.specs.declared.fault.SourceFault.{SourceFault}
use Rattle.om_lexer.specs.Faults.{no_memory}
use Rattle.om_lexer.specs.declared.token.Token.{Token}
use Rattle.om_parser_tree.specs.declared.tree.Unit as units
use Rattle.om_parser_tree.specs.Formed.{IsUnit}
use Rattle.om_parser_tree.specs.Limits.{accepted}
use Rattle.om_parser.specs.Faults.{IsBadAtomic}
use Rattle.om_parser.specs.LineFaults.{IsPassedInLine, IsRefusedLine}
use Rattle.om_parser_tree.specs.Places.{IsPassed, IsOverInUnit}
use Rattle.om_parser_tree.specs.Sizes.{AtomicsHaveForms, IsWithinLimits}
use Rattle.om_parser_tree.specs.Spelling.{unit_spelling}
use Rattle.om_parser_tree.specs.Tree.{UnitTree}
use Rattle.om_parser_tree.specs.View.{view_unit}

-- a well-formed tree of these tokens
pub record IsTreeOf (tokens : List Token) (u : UnitTree) : Type 0 where
  pub formed : IsUnit u
  pub spelled : unit_spelling u ≡ tokens

-- no well-formed tree of any size has these tokens
abbrev pub HasNoTree : List Token → Type 0
HasNoTree tokens = (u : UnitTree) → ¬ IsTreeOf tokens u

-- so it is of each well-formed tree of these tokens that keeps the limits, and in which each `atomic` has one of its
-- forms
abbrev pub ForEachAccepted : List Token → (UnitTree → Type 0) → Type 0
ForEachAccepted tokens IsSo = (u : UnitTree) → IsTreeOf tokens u → IsWithinLimits u → AtomicsHaveForms u → IsSo u

-- A limit is passed at this place, as at the 129th `(` of nested ones: in a whole unit, where blocks or statements may
-- nest too deep as well, or in the expression of a clause.
abbrev pub IsLimitPassed : List Token → ℕ → Type 0
IsLimitPassed tokens place = IsPassed unit_spelling IsUnit (IsOverInUnit accepted) tokens place
    ⊎ IsPassedInLine accepted tokens place

-- a limit is passed at the place of this fault
abbrev pub PassesALimit : List Token → SourceFault → Type 0
PassesALimit tokens fault = IsLimitPassed tokens fault.at

-- a line is refused so, or the statement of an `atomic` at the place of this fault has none of its forms
abbrev pub IsRefusedLineOrAtomic : List Token → SourceFault → Type 0
IsRefusedLineOrAtomic tokens fault = IsRefusedLine tokens fault ⊎ IsBadAtomic tokens fault.at

-- where the source is refused by this code, its fault is so
abbrev pub IfRefusedBy : FaultCode → Result units.Unit SourceFault → (SourceFault → Type 0) → Type 0
IfRefusedBy code result IsSo = IfErr result (λ fault. fault.code ≡ code → IsSo fault)

-- memory ran out, or the code is one of those by which the parser refuses a source
abbrev pub HasParserCode : SourceFault → Type 0
HasParserCode fault = (fault ≡ no_memory) ⊎ (fault.code ≡ codes.Syntax) ⊎ (fault.code ≡ codes.TooDeep)
    ⊎ (fault.code ≡ codes.UnknownDirective) ⊎ (fault.code ≡ codes.BadClause)

-- the tree, unless memory ran out
abbrev pub IsTreeOrMemory : UnitTree → Result units.Unit SourceFault → Type 0
IsTreeOrMemory u (Ok found) = view_unit found ≡ u
IsTreeOrMemory u (Err fault) = fault ≡ no_memory
