use Rattle.std.proofs.Common.{◌≡◌, ◌∙◌, sym, ap, nat_eq, nat_lt, ◌&&◌, cond, true}
use Rattle.om_undo_touches.specs.Slots.{has_span}
use Rattle.om_undo_touches.proofs.SlotLemmas.{spans_set}
use Rattle.om_undo_touches.proofs.slots.SlotTouches.add_first.Goals as goal

pub returns-clause-added : goal.returns-clause-added
returns-clause-added c q i s =
    let es = c.args.self.now.slots.entries in
    let k = c.args.slot.now in
    let e = nat_eq c.args.serial s && nat_lt i c.args.count in
    spans_set true e es c.insert.new.self.entries k c.add.new.self i s c.in_ok-insert.ensures.updates.0
    (c.in_ok-add.ensures.added i s ∙ ap (cond e true) (c.new-spans.ensures i s ∙ sym (c.requires i s))) q
