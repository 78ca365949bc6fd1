-- The way back stays, and each turn goes one inverse along it.
use Rattle.std.proofs.Common.{◌≡◌, ◌+◌, length}
use Rattle.om_memory.specs.Trails.{CanRewind, past_of}
use Rattle.om_memory.proofs.trail.rewind.Given as goal

abbrev pub invariant-loop : goal.invariant-loop
invariant-loop l = record {
  past : past_of l.inverses l.control ≡ past_of l.fn.inverses l.fn.control;
  can_rewind : CanRewind l.inverses l.control;
  count : length l.inverses + l.counter ≡ l.end;
}
