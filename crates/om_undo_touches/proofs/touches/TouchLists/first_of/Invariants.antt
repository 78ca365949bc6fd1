use Rattle.std.proofs.Common.{take}
use Rattle.om_undo_touches.specs.Touches.{has_touch, meets}
use Rattle.om_foot.specs.Firsts.{IsFirst}
use Rattle.om_undo_touches.proofs.touches.TouchLists.first_of.Given as goal

-- the first conflict with the accesses so far
abbrev pub invariant-loop-access : goal.invariant-loop-access
invariant-loop-access l = IsFirst (meets (has_touch l.self) (take l.access-index l.accesses)) l.serial l.first
