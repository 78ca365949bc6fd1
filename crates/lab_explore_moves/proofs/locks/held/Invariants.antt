use Rattle.std.proofs.Common.{◌≡◌}
use Rattle.om_undo.specs.Machines.{state_in}
use Rattle.lab_explore_closed.specs.Races.{locks_below}
use Rattle.lab_explore_moves.proofs.locks.held.Given as goal

abbrev pub invariant-loop-lock : goal.invariant-loop-lock
invariant-loop-lock l = l.all.items ≡ locks_below (state_in l.machine) l.worker l.lock
