use Rattle.std.proofs.Common.{◌≤◌, ◌-◌, vec_len}
use Rattle.om_drive.proofs.free_run.open_gates.Given as goal

abbrev pub invariant-loop-gates : goal.invariant-loop-gates
invariant-loop-gates l = vec_len l.gates ≤ l.workers

abbrev pub decreases-loop-gates : goal.decreases-loop-gates
decreases-loop-gates l = l.workers - vec_len l.gates
