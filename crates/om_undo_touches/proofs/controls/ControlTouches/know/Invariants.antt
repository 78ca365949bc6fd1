-- No touch changes, and those that are added are none.
use Rattle.std.proofs.Common.{◌+◌, ◌-◌, length}
use Rattle.om_undo_touches.specs.Touches.{SameControls}
use Rattle.om_undo_touches.proofs.controls.ControlTouches.know.Given as goal

abbrev pub invariant-grow : goal.invariant-grow
invariant-grow l = SameControls l.fn.self l.self

abbrev pub decreases-grow : goal.decreases-grow
decreases-grow l = l.worker + 1 - length l.self.workers.items
