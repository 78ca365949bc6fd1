use Rattle.std.proofs.Common.{◌≡◌, ◌∙◌, sym, ap, nat_eq, nat_lt, ◌&&◌, cond, true}
use Rattle.om_undo_touches.specs.Lists.{on_ok, on_err}
use Rattle.std.specs.Map.{lookup}
use Rattle.om_undo_touches.specs.Slots.{slot_eq, has_span, spans_in}
use Rattle.om_undo_touches.proofs.SlotLemmas.{spans_there, no_spans, is_there, spans_set, spans_same}
use Rattle.om_undo_touches.proofs.slots.SlotTouches.add_of.Goals as goal

pub add_first-requires : goal.add_first-requires
add_first-requires c i s =
    ap (λ x. has_span (spans_in (lookup (slot_eq c.args.slot.now) x.entries)) i s) c.get_mut.follows.holds-at-none
    ∙ ap (λ xs. has_span xs i s) (no_spans c.args.self.now.slots.entries c.args.slot.now c.in-None.ensures.value)

pub returns-in-Some-clause-added : goal.returns-in-Some-clause-added
returns-in-Some-clause-added c =
    let es = c.args.self.now.slots.entries in
    let k = c.args.slot.now in
    let w = c.add.new.self in
    on_ok c.add.result
    (λ added q i s. spans_set true (nat_eq c.args.serial s && nat_lt i c.args.count) es
    (c.get_mut.follows.lender w).entries k w i s
    ((c.get_mut.follows.holds w).3 (is_there es k c.in-Some.spans.now c.in-Some.ensures.value)).0
    (added i s ∙ ap (λ xs. cond (nat_eq c.args.serial s && nat_lt i c.args.count) true (has_span xs i s))
    (sym (spans_there es k c.in-Some.spans.now c.in-Some.ensures.value))) q)
    c.add.ensures.added

pub returns-in-Some-clause-unchanged_on_error : goal.returns-in-Some-clause-unchanged_on_error
returns-in-Some-clause-unchanged_on_error c =
    let es = c.args.self.now.slots.entries in
    let k = c.args.slot.now in
    let w = c.add.new.self in
    on_err c.add.result
    (λ same q i s. spans_same es (c.get_mut.follows.lender w).entries k w i s
    ((c.get_mut.follows.holds w).3 (is_there es k c.in-Some.spans.now c.in-Some.ensures.value)).0
    (same i s ∙ ap (λ xs. has_span xs i s) (sym (spans_there es k c.in-Some.spans.now c.in-Some.ensures.value))) q)
    c.add.ensures.unchanged_on_error
