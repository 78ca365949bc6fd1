-- no write changes before the place is found
use Rattle.std.proofs.Common.{◌≡◌}
use Rattle.om_undo_touches.proofs.spans.Spans.add.Given as goal

abbrev pub invariant-seek : goal.invariant-seek
invariant-seek l = l.self ≡ l.fn.self
