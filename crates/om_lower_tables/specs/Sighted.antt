-- Variables that get slots as they are seen.
use Rattle.std.specs.Prelude.{◌≡◌, ◌++◌, ℕ, List, fold, map, nat_eq}
use Rattle.std.specs.List.{flat_map}
use Rattle.om_scope_tree.specs.Captures.{perhaps_uses}
use Rattle.om_scope_tree.specs.declared.resolved.ResolvedClause.{ResolvedClause}
use Rattle.om_scope_tree.specs.declared.resolved.ResolvedDeclarator.{ResolvedDeclarator}
use Rattle.om_scope_tree.specs.declared.resolved.ResolvedHead.{ResolvedHead}
use Rattle.om_scope_tree.specs.declared.resolved.ResolvedStatement.{ResolvedStatement}
use Rattle.om_scope_tree.specs.ResolvedView as view
use Rattle.om_lower_rules.specs.Bodies.{region_variables}
use Rattle.om_lower_rules.specs.Slots.{clause_sights, declarator_sights, region_clause_sights, start_sights, statement_sights}
use Rattle.om_lower_rules.specs.Tables.{with_sight}
use Rattle.om_lower_tables.specs.Trees.{perhaps_tree}

-- the variables of a body behind further sights
abbrev pub sighted : List ℕ → (sights : List ℕ) → List ℕ
sighted slots sights = fold (with_sight nat_eq) slots sights

-- these variables have been seen, in this order
abbrev pub Sees : (sights : List ℕ) → (old new : List ℕ) → Type 0
Sees sights old new = new ≡ sighted old sights

-- ---- the variables that a part of a program is a sight of

-- those of declarations
abbrev pub declarators_sights : List ResolvedDeclarator → List ℕ
declarators_sights declarators = flat_map declarator_sights (map view.declarator declarators)

-- those of the clauses of a construct in whose body they stand
abbrev pub clauses_sights : List ResolvedClause → List ℕ
clauses_sights clauses = flat_map clause_sights (map view.clause clauses)

-- those of the clauses of a `parallel` or a `task`, in its body
abbrev pub region_clauses_sights : List ResolvedClause → List ℕ
region_clauses_sights clauses = flat_map region_clause_sights (map view.clause clauses)

-- those of the head of a `for`
abbrev pub head_sights : ResolvedHead → List ℕ
head_sights head = start_sights (view.start head.start)
    ++ (perhaps_uses (perhaps_tree head.condition) ++ perhaps_uses (perhaps_tree head.step))

-- those of a statement; a region in it is a sight of what its body uses from outside
abbrev pub sights_in : ResolvedStatement → List ℕ
sights_in statement = statement_sights (view.statement statement)

-- the variables of the body of a `parallel` or a `task`, by their slots
abbrev pub variables_of_region : List ResolvedClause → ResolvedStatement → List ℕ
variables_of_region clauses body = region_variables (map view.clause clauses) (view.statement body)
