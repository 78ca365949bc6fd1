use Rattle.std.proofs.Common.{◌≡◌, ◌++◌, drop}
use Rattle.om_scope_tree.specs.Captures.{captured, taken_by_parallel}
use Rattle.om_scope_tree.proofs.captures.captured_by_parallel.Given as goal

abbrev pub invariant-loop-variable : goal.invariant-loop-variable
invariant-loop-variable l = l.captures.items ++ captured taken_by_parallel (drop l.variable-index l.variables)
    ≡ captured taken_by_parallel l.variables
