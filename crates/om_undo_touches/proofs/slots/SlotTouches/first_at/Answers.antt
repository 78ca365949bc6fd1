use Rattle.std.proofs.Common.{sym}
use Rattle.om_undo_touches.specs.Slots.{has_span, spans_of}
use Rattle.om_undo_touches.specs.Touches.{has_slot_write}
use Rattle.om_undo_touches.specs.Searches.{IsFirst-same}
use Rattle.om_undo_touches.proofs.SlotLemmas.{write_at}
use Rattle.om_undo_touches.proofs.slots.SlotTouches.first_at.Goals as goal

pub returns-in-Some : goal.returns-in-Some
returns-in-Some c =
    let slots = c.args.self.now in
    let o = c.args.object.now in
    IsFirst-same (has_span (spans_of slots c.in-Some.slot) c.in-Some.index) (has_slot_write slots o) c.args.serial
    c.first_of.result
    (λ s. sym (write_at slots o (c.in-Some.slot, c.in-Some.index) c.in-Some.ensures s)) c.first_of.ensures
