use Rattle.std.proofs.Common.{◌≡◌}
use Rattle.om_undo.specs.Machines.{state_in}
use Rattle.lab_explore_closed.specs.Endings.{waits_at}
use Rattle.lab_explore_moves.proofs.left.waits.Given as goal

abbrev pub invariant-loop-worker : goal.invariant-loop-worker
invariant-loop-worker l = l.all.items ≡ waits_at l.machine.program l.machine.workers (state_in l.machine) l.worker
