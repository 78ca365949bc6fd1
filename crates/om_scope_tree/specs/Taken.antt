-- What a `parallel` or a `task` of a program takes from outside, and how (OpenMP API 5.2, section 5.1): what one with
-- its tree does.
use Rattle.std.specs.Prelude.{◌≡◌, ℕ, IfOk, List, Result, map}
use Rattle.om_scope_tree.specs.Captures.{captures_of, listed_variables, taken_by_parallel, taken_by_task, taken_variables}
use Rattle.om_scope_tree.specs.FoundVariables.{FoundVariables}
use Rattle.om_scope_tree.specs.ResolvedView as view
use Rattle.om_scope_tree.specs.declared.captures.TaskSharing.{TaskSharing}
use Rattle.om_scope_tree.specs.declared.resolved.Capture.{Capture}
use Rattle.om_scope_tree.specs.declared.resolved.ResolvedClause.{ResolvedClause}
use Rattle.om_scope_tree.specs.declared.resolved.ResolvedStatement.{ResolvedStatement}
use Rattle.om_scope_tree.specs.declared.resolved.Taking.{Taking}

-- a function produces this, unless memory runs out
abbrev pub Produces : {A E : Type 0} → Result A E → A → Type 0
Produces result made = IfOk result (λ x. x ≡ made)

-- these variables are found of a region that begins there
abbrev pub found_from : (start : ℕ) → (variables : List ℕ) → FoundVariables
found_from start variables = record { start = start; variables = variables }

-- the variables from outside that the clauses of a region list as used in it, each once
abbrev pub listed_from : (start : ℕ) → List ResolvedClause → List ℕ
listed_from start clauses = listed_variables start (map view.clause clauses)

-- the variables from outside that a region uses that begins there, each once
abbrev pub taken_from : (start : ℕ) → List ResolvedClause → ResolvedStatement → List ℕ
taken_from start clauses body = taken_variables start (map view.clause clauses) (view.statement body)

-- how a `task` takes a variable from outside, where its clauses list these (OpenMP API 5.2, section 5.1.1)
abbrev pub taken_under : TaskSharing → (listed : List ℕ) → ℕ → Taking
taken_under sharing listed variable = taken_by_task sharing.has_default sharing.parallel listed variable

-- what a `parallel` that begins there takes from outside
abbrev pub parallel_captures : (start : ℕ) → List ResolvedClause → ResolvedStatement → List Capture
parallel_captures start clauses body =
    captures_of taken_by_parallel start (map view.clause clauses) (view.statement body)

-- what a `task` that begins there takes from outside
abbrev pub task_captures : TaskSharing → (start : ℕ) → List ResolvedClause → ResolvedStatement → List Capture
task_captures sharing start clauses body =
    captures_of (taken_under sharing (listed_from start clauses)) start (map view.clause clauses) (view.statement body)
