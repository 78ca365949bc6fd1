-- No entry changes, and there are none of those that are added.
use Rattle.std.proofs.Common.{◌+◌, ◌-◌, length}
use Rattle.om_undo_touches.specs.Touches.{SameOwn}
use Rattle.om_undo_touches.proofs.own.OwnEntries.know.Given as goal

abbrev pub invariant-grow : goal.invariant-grow
invariant-grow l = SameOwn l.fn.self l.self

abbrev pub decreases-grow : goal.decreases-grow
decreases-grow l = l.worker + 1 - length l.self.workers.items
