use Rattle.std.proofs.Common.{false, true, cond, ◌∙◌, ap}
use Rattle.om_undo_touches.specs.Touches.{has_slot_touch}
use Rattle.om_undo_touches.proofs.touches.TouchLists.new.Goals as goal

pub returns : goal.returns
returns c o m s =
    ap (λ b. cond b true (has_slot_touch c.new-2.result o m s)) (c.new.ensures o m s) ∙ c.new-2.ensures o m s
