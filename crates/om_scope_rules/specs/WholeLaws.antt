-- What every resolution is.
use Rattle.std.specs.Prelude.{◌≡◌, ℕ, Bool, List, [], Option, Some, true, IsSome, IfSome, IsSomeAnd, fold, option_map, slice_get}
use Rattle.std.specs.List.{flat_map}
use Rattle.om_parser_tree.specs.Formed.{AreStatements, IsUnit}
use Rattle.om_parser_tree.specs.Tree.{ExpressionTree, StatementsTree, ItemTree, UnitTree}
use Rattle.om_scope_tree.specs.Beside.{TreeAtomicsAssign}
use Rattle.om_scope_tree.specs.ResolvedTree.{ResolvedTree}
use Rattle.om_scope_tree.specs.Uses.{IsResolved}
use Rattle.om_parser_tree.specs.Sizes.{AtomicsHaveForms, HaveForms}
use Rattle.om_scope_tree.specs.Whole.{Around, IsWhole, AreWholeItems, IsWholeTree}
use Rattle.om_scope_rules.specs.ExpressionRules.{expression_breaches}
use Rattle.om_scope_rules.specs.Knowing.{Agrees, Knows}
use Rattle.om_scope_rules.specs.Resolution.{resolved_expression}
use Rattle.om_scope_tree.specs.declared.resolved.Variable.TheVariants as variables
use Rattle.om_scope_rules.specs.declared.names.Meaning.TheVariants as meanings
use Rattle.om_scope_rules.specs.Breaches.{breaches_of}
use Rattle.om_scope_rules.specs.declared.region.Flow.{Flow}
use Rattle.om_scope_rules.specs.StatementResolution.{resolved_statements}
use Rattle.om_scope_rules.specs.StatementRules.{statements_breaches}
use Rattle.om_scope_tree.specs.declared.resolved.Shape.{Shape}
use Rattle.om_scope_rules.specs.UnitResolution.{globals_of, resolution_of}
use Rattle.om_scope_rules.specs.Scopes.{Scopes, definitions_of, file_scope, meaning_of, after_item}

-- A name that means a variable behind some items is the name of the global of that number among those that
-- they declare.
abbrev pub NumbersNameGlobals : Type 0
NumbersNameGlobals =
    (items : List ItemTree) (name : List ℕ) (number : ℕ) (shape : Shape)
    → meaning_of (fold after_item (file_scope (definitions_of items)) items) name
    ≡ Some (meanings.Variable (variables.Global number) shape)
    → option_map (λ global. global.name) (slice_get (flat_map globals_of items) number) ≡ Some name

-- A well-formed tree that has the forms of `atomic` and breaks no rule has a resolution.
abbrev pub UnbrokenTreesResolve : Type 0
UnbrokenTreesResolve = (unit : UnitTree) → IsUnit unit → AtomicsHaveForms unit → breaches_of unit ≡ []
    → IsSome (resolution_of unit)

-- It knows each global by the number of one, and has a `main`.
abbrev pub UnbrokenTreesAreResolved : Type 0
UnbrokenTreesAreResolved = (unit : UnitTree) (tree : ResolvedTree) → breaches_of unit ≡ [] → resolution_of unit
    ≡ Some tree → IsResolved tree

-- An expression without a breach, in scopes that are known, resolves to one that is whole.
abbrev pub UnbrokenExpressionsAreWhole : Type 0
UnbrokenExpressionsAreWhole =
    (around : Around) (scopes : Scopes) (is_used : Bool) (e : ExpressionTree)
    → Knows around scopes → expression_breaches scopes is_used e ≡ [] → IfSome (resolved_expression scopes e)
    (IsWhole around is_used)

-- Well-formed statements that have the forms of `atomic` and no breach, in scopes that are known, resolve to whole
-- ones.
abbrev pub UnbrokenStatementsAreWhole : Type 0
UnbrokenStatementsAreWhole =
    (around : Around) (scopes : Scopes) (flow : Flow) (parallel : Option ℕ) (ss : StatementsTree)
    → Knows around scopes → Agrees around flow → AreStatements ss → HaveForms true ss
    → statements_breaches scopes flow ss ≡ [] → IsSomeAnd (resolved_statements scopes parallel ss) (AreWholeItems around)

-- A well-formed source that has the forms of `atomic` and no breach resolves to a whole tree.
abbrev pub UnbrokenTreesAreWhole : Type 0
UnbrokenTreesAreWhole = (unit : UnitTree) → IsUnit unit → AtomicsHaveForms unit → breaches_of unit ≡ []
    → IsSomeAnd (resolution_of unit) IsWholeTree

-- Each `atomic` that reads or writes resolves to one of an assignment, where the source has the forms of `atomic`.
abbrev pub AtomicsAssign : Type 0
AtomicsAssign = (unit : UnitTree) → AtomicsHaveForms unit → IfSome (resolution_of unit) TreeAtomicsAssign
