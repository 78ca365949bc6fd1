-- The variables of its function that a part of a program uses, in the order of the text: those that its tree does.
use Rattle.std.specs.Prelude.{◌≡◌, ◌++◌, ℕ, List, OnOk, Option, Result, fold, map, option_map}
use Rattle.std.specs.List.{flat_map}
use Rattle.om_scope_tree.specs.Captures.{captured_variable, clause_uses, declarator_uses, expression_uses, listed_uses}
use Rattle.om_scope_tree.specs.Captures.{own_uses, parts_uses, perhaps_uses, start_uses, statement_uses, statements_uses}
use Rattle.om_scope_tree.specs.Captures.{values_uses}
use Rattle.om_scope_tree.specs.ResolvedTree as trees
use Rattle.om_scope_tree.specs.ResolvedView as view
use Rattle.om_scope_tree.specs.declared.resolved.Capture.{Capture}
use Rattle.om_scope_tree.specs.declared.resolved.ResolvedClause.{ResolvedClause}
use Rattle.om_scope_tree.specs.declared.resolved.ResolvedDeclarator.{ResolvedDeclarator}
use Rattle.om_scope_tree.specs.declared.resolved.ResolvedExpression.{ResolvedExpression}
use Rattle.om_scope_tree.specs.declared.resolved.ResolvedHead.{ResolvedHead}
use Rattle.om_scope_tree.specs.declared.resolved.ResolvedLoop.{ResolvedLoop}
use Rattle.om_scope_tree.specs.declared.resolved.ResolvedPart.{ResolvedPart}
use Rattle.om_scope_tree.specs.declared.resolved.ResolvedStatement.{ResolvedStatement}

-- what sees variables has been shown these, one after the other, unless memory runs out
abbrev pub SeesUses : {S T E : Type 0} → Result T E → (next : S → ℕ → S) → (uses : List ℕ) → (old new : S) → Type 0
SeesUses result next uses old new = OnOk result (new ≡ fold next old uses)

-- ---- expressions

abbrev pub used_by_expression : ResolvedExpression → List ℕ
used_by_expression expression = expression_uses (view.expression expression)

-- the values of a call, from the first on
abbrev pub used_by_values : List ResolvedExpression → List ℕ
used_by_values values = values_uses (trees.values (map view.expression values))

-- an expression that may be left out
abbrev pub used_by_perhaps : Option ResolvedExpression → List ℕ
used_by_perhaps expression = perhaps_uses (option_map view.expression expression)

-- what declared variables begin as
abbrev pub used_by_declarators : List ResolvedDeclarator → List ℕ
used_by_declarators declarators = flat_map declarator_uses (map view.declarator declarators)

-- ---- clauses

-- of clauses, outside of their construct
abbrev pub used_by_clauses : List ResolvedClause → List ℕ
used_by_clauses clauses = flat_map clause_uses (map view.clause clauses)

-- of the clauses of a region, in it: a listed variable counts as used
abbrev pub used_as_listed : List ResolvedClause → List ℕ
used_as_listed clauses = flat_map listed_uses (map view.clause clauses)

-- a `parallel` or a `task` uses what its clauses do, and what it takes from outside
abbrev pub used_by_region : List ResolvedClause → List Capture → List ℕ
used_by_region clauses captures = used_by_clauses clauses ++ map captured_variable captures

-- ---- statements

-- the head of a `for`: its beginning, its condition and its step
abbrev pub used_by_head : ResolvedHead → List ℕ
used_by_head head =
    start_uses (view.start head.start) ++ (used_by_perhaps head.condition ++ used_by_perhaps head.step)

-- the clauses and the bounds of a canonical loop
abbrev pub used_by_bounds : List ResolvedClause → ResolvedLoop → List ℕ
used_by_bounds clauses repeated =
    used_by_clauses clauses ++ (used_by_expression repeated.from ++ used_by_expression repeated.to)

-- of a statement, besides the statements in it
abbrev pub used_by_itself : ResolvedStatement → List ℕ
used_by_itself statement = own_uses (view.statement statement)

-- of a statement, with those in it
abbrev pub used_by_statement : ResolvedStatement → List ℕ
used_by_statement statement = statement_uses (view.statement statement)

-- statements, one behind the other
abbrev pub used_by_statements : List ResolvedStatement → List ℕ
used_by_statements items = statements_uses (trees.statements (map view.statement items))

-- the parts of a `sections`
abbrev pub used_by_parts : List ResolvedPart → List ℕ
used_by_parts parts = parts_uses (trees.parts (map view.part parts))
