use Rattle.std.proofs.Common.{take}
use Rattle.om_undo_touches.specs.Touches.{has_touch, LosesOfEntry}
use Rattle.om_undo_touches.proofs.touches.TouchLists.remove_each.Given as goal

-- the touches so far are taken out
abbrev pub invariant-loop-access : goal.invariant-loop-access
invariant-loop-access l = LosesOfEntry (take l.access-index l.accesses) l.serial (has_touch l.fn.self) (has_touch l.self)
