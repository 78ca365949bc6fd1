use Rattle.std.proofs.Common.{◌≤◌}
use Rattle.lab_hunt.proofs.tries.Tries.next.Given as goal

-- the seeds that were tried are later ones
abbrev pub invariant-schedules : goal.invariant-schedules
invariant-schedules g l = l.fn.self.seed ≤ l.self.seed
