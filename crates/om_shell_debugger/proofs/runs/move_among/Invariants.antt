use Rattle.std.proofs.Common.{◌≡◌, ◌≤◌}
use Rattle.om_shell_debugger.specs.Runs.{move_among}
use Rattle.om_shell_debugger.proofs.runs.move_among.Given as goal

abbrev pub invariant-workers : goal.invariant-workers
invariant-workers l = record {
  same : move_among l.machine l.last ≡ move_among l.machine l.initial.last;
  within : l.last ≤ l.machine.workers;
}

abbrev pub decreases-workers : goal.decreases-workers
decreases-workers l = l.last
