use Rattle.std.proofs.Common.{◌≡◌, sym, ap, subst}
use Rattle.om_undo_touches.specs.Slots.{has_span}
use Rattle.om_foot.specs.Firsts.{IsFirst}
use Rattle.om_undo_touches.proofs.SlotLemmas.{spans_there, no_spans}
use Rattle.om_undo_touches.proofs.slots.SlotTouches.first_of.Goals as goal

pub returns-in-Some : goal.returns-in-Some
returns-in-Some c =
    subst (λ xs. IsFirst (has_span xs c.args.index) c.args.serial c.first_at.result)
    (sym (spans_there c.args.self.now.slots.entries c.args.slot.now c.in-Some.spans.now c.in-Some.ensures.value))
    c.first_at.ensures

pub returns-in-None : goal.returns-in-None
returns-in-None c s above =
    ap (λ xs. has_span xs c.args.index s) (no_spans c.args.self.now.slots.entries c.args.slot.now c.in-None.ensures.value)
