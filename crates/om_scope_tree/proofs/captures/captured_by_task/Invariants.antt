use Rattle.std.proofs.Common.{◌≡◌, ◌++◌, drop}
use Rattle.om_scope_tree.specs.Captures.{captured, taken_by_task}
use Rattle.om_scope_tree.proofs.captures.captured_by_task.Given as goal

abbrev pub invariant-loop-variable : goal.invariant-loop-variable
invariant-loop-variable l =
    let taking = taken_by_task l.sharing.has_default l.sharing.parallel l.listed.variables in
    l.captures.items ++ captured taking (drop l.variable-index l.variables) ≡ captured taking l.variables
