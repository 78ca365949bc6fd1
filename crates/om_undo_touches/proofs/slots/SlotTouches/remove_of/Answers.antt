use Rattle.std.proofs.Common.{◌≡◌, ◌∙◌, sym, ap, nat_eq, cond, false}
use Rattle.std.specs.Map.{lookup}
use Rattle.om_undo_touches.specs.Slots.{slot_eq, has_span, spans_in}
use Rattle.om_undo_touches.proofs.SlotLemmas.{spans_there, no_spans, is_there, spans_set, spans_unset}
use Rattle.om_undo_touches.proofs.slots.SlotTouches.remove_of.Goals as goal

pub returns-in-Some : goal.returns-in-Some
returns-in-Some c q i s =
    let es = c.args.self.now.slots.entries in
    let k = c.args.slot.now in
    let w = c.remove.new.self in
    spans_set false (nat_eq c.args.serial s) es (c.get_mut.follows.lender w).entries k w i s
    ((c.get_mut.follows.holds w).3 (is_there es k c.in-Some.spans.now c.in-Some.ensures.value)).0
    (c.remove.ensures i s ∙ ap (λ xs. cond (nat_eq c.args.serial s) false (has_span xs i s))
    (sym (spans_there es k c.in-Some.spans.now c.in-Some.ensures.value))) q

pub returns-in-None : goal.returns-in-None
returns-in-None c q i s =
    let es = c.args.self.now.slots.entries in
    ap (λ x. has_span (spans_in (lookup (slot_eq q) x.entries)) i s) c.get_mut.follows.holds-at-none
    ∙ spans_unset es c.args.slot.now c.args.serial (no_spans es c.args.slot.now c.in-None.ensures.value) q i s
