use Rattle.std.proofs.Common.{◌≤◌, ◌-◌, vec_len}
use Rattle.om_drive.proofs.seats.zeros.Given as goal

abbrev pub invariant-loop-zeros : goal.invariant-loop-zeros
invariant-loop-zeros l = vec_len l.zeros ≤ l.count

abbrev pub decreases-loop-zeros : goal.decreases-loop-zeros
decreases-loop-zeros l = l.count - vec_len l.zeros
