use Rattle.std.proofs.Common.{take, true}
use Rattle.om_undo_touches.specs.Touches.{has_single_touch, IsSet}
use Rattle.om_undo_touches.proofs.singles.SingleTouches.add_each.Given as goal

-- the touches so far are added
abbrev pub invariant-loop-access : goal.invariant-loop-access
invariant-loop-access l =
    IsSet true (take l.access-index l.footprint) l.serial (has_single_touch l.fn.self) (has_single_touch l.self)
