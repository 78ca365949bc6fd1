-- Which of the rules that a source breaks is the one that it is answered.
use Rattle.std.specs.Prelude.{◌≡◌, ℕ, List, Some, true, Contains, map}
use Rattle.std.specs.List.Sorted.{IsStrictlyIncreasing}
use Rattle.om_lexer.specs.declared.fault.SourceFault.{SourceFault}
use Rattle.om_lexer.specs.declared.token.Token.{Token}
use Rattle.om_lexer.specs.Sources.{IsTokens}
use Rattle.om_parser_tree.specs.Formed.{IsUnit}
use Rattle.om_parser_tree.specs.Spelling.{unit_spelling}
use Rattle.om_parser_tree.specs.Tree.{UnitTree}
use Rattle.om_scope_rules.specs.Breaches.{breaches_of}
use Rattle.om_scope_rules.specs.Faults.{first_of, goes_first}
use Rattle.om_scope_rules.specs.UnitResolution.{resolution_of}
use Rattle.om_scope_tree.specs.ResolvedTree.{ResolvedFunctionTree, ResolvedTree}

-- In a well-formed tree of a source's tokens the first breach has the lowest place of all, and of those that have this
-- place the lowest number.
abbrev pub FirstBreachIsLeast : Type 0
FirstBreachIsLeast =
    (source : List ℕ) (tokens : List Token) (unit : UnitTree) (b c : SourceFault)
    → IsTokens source tokens → unit_spelling unit ≡ tokens → IsUnit unit
    → first_of (breaches_of unit) ≡ Some b → Contains (breaches_of unit) c → goes_first b c ≡ true

-- where the names of functions stand
abbrev pub name_places : List ResolvedFunctionTree → List ℕ
name_places functions = map (λ (f : ResolvedFunctionTree). f.name_at) functions

-- In the resolution of such a tree the names of functions stand in the order of its functions. So the first function
-- that passes a limit of code has the lowest name of all that pass one.
abbrev pub FunctionNamesRise : Type 0
FunctionNamesRise =
    (source : List ℕ) (tokens : List Token) (unit : UnitTree) (resolved : ResolvedTree)
    → IsTokens source tokens → unit_spelling unit ≡ tokens → resolution_of unit ≡ Some resolved
    → IsStrictlyIncreasing (name_places resolved.functions)
