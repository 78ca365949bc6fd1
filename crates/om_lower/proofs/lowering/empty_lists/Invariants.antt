use Rattle.std.proofs.Common.{◌≡◌, length}
use Rattle.om_lower.proofs.lowering.empty_lists.Given as goal

abbrev pub invariant-loop : goal.invariant-loop
invariant-loop l = length l.picks.items ≡ l.counter
