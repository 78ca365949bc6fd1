-- What a source comes to: its program, or its refusal.
use Rattle.std.specs.Prelude.{◌≡◌, ◌⊎◌, ℕ, List, [], None, Some, Result, Ok, Err}
use Rattle.om_lexer.specs.declared.fault.FaultCode.TheVariants.{Syntax, TooDeep, UnknownDirective, BadClause}
use Rattle.om_lexer.specs.declared.fault.SourceFault.{SourceFault}
use Rattle.om_lexer.specs.declared.token.Token.{Token}
use Rattle.om_lexer.specs.Sources.{IsTokens, IsFault}
use Rattle.om_parser.specs.Faults.{IsBadAtomic}
use Rattle.om_parser.specs.LineFaults.{IsRefusedLine}
use Rattle.om_parser_tree.specs.Sizes.{IsWithinLimits, AtomicsHaveForms}
use Rattle.om_parser.specs.Parsing.{IsTreeOf, IsLimitPassed}
use Rattle.om_parser.specs.Refusals.{refusal_of}
use Rattle.om_parser_tree.specs.Tree.{UnitTree}
use Rattle.om_scope_rules.specs.Breaches.{breaches_of}
use Rattle.om_scope_rules.specs.Faults.{first_of}
use Rattle.om_scope_tree.specs.ResolvedTree.{ResolvedTree}
use Rattle.om_scope_rules.specs.UnitResolution.{resolution_of}
use Rattle.om_lower.specs.Limits.{AreWithin, IsTooMany}
use Rattle.om_lower_rules.specs.Code.{IsCodeOf}
use Rattle.om_code.specs.declared.raw.Raw.{Raw}

-- the source has tokens, and they a tree within the limits whose `atomic` constructs have one of their forms
pub record IsTreeOfSource (source : List ℕ) (tree : UnitTree) : Type 0 where
  pub tokens : List Token
  pub lexed : IsTokens source tokens
  pub parsed : IsTreeOf tokens tree
  pub within_limits : IsWithinLimits tree
  pub forms : AtomicsHaveForms tree

-- the source has such a tree, which breaks no rule of om_scope_rules, and this is its resolution
pub record IsResolutionOfSource (source : List ℕ) (resolved : ResolvedTree) : Type 0 where
  pub tree : UnitTree
  pub has_tree : IsTreeOfSource source tree
  pub no_breach : breaches_of tree ≡ []
  pub resolves : resolution_of tree ≡ Some resolved

-- this is the code of the source's resolution, of which no body passes a limit
pub record IsProgramOf (source : List ℕ) (program : Raw) : Type 0 where
  pub resolved : ResolvedTree
  pub has_resolution : IsResolutionOfSource source resolved
  pub within : AreWithin resolved
  pub code : IsCodeOf resolved program

-- why the parser refuses tokens, by any of its codes. No tree has them; where S3 then stands,
-- `om_parser/specs/Halts` says. Or a limit is passed at this place, a directive is refused there, or an `atomic`
-- there has a statement that is none of its forms.
abbrev pub IsSyntaxFault : List Token → SourceFault → Type 0
IsSyntaxFault tokens fault = ((fault.code ≡ Syntax) × ((tree : UnitTree) → ¬ IsTreeOf tokens tree))
    ⊎ ((fault.code ≡ TooDeep) × IsLimitPassed tokens fault.at)
    ⊎ ((fault.code ≡ UnknownDirective) × IsRefusedLine tokens fault)
    ⊎ ((fault.code ≡ BadClause) × (IsRefusedLine tokens fault ⊎ IsBadAtomic tokens fault.at))

-- why a source is refused: the passes run in the order lexer, parser, names, code, and the first that refuses answers.
-- Tokens have one refusal by the parser at most
pub data IsRefused (source : List ℕ) (fault : SourceFault) : Type 0 where
  by_lexer : IsFault source fault.code fault.at → IsRefused source fault
  by_parser : (tokens : List Token) → IsTokens source tokens → IsSyntaxFault tokens fault
      → refusal_of tokens ≡ Some fault → IsRefused source fault
  by_names : (tree : UnitTree) → IsTreeOfSource source tree → first_of (breaches_of tree) ≡ Some fault
      → IsRefused source fault
  by_code : (resolved : ResolvedTree) → IsResolutionOfSource source resolved → IsTooMany resolved fault
      → IsRefused source fault

-- what a source comes to
abbrev pub IsVerdict : List ℕ → Result Raw SourceFault → Type 0
IsVerdict source (Ok program) = IsProgramOf source program
IsVerdict source (Err fault) = IsRefused source fault
