use Rattle.std.proofs.Common.{◌≡◌, ◌∙◌, ap, sym, Some, arith, nat_eq, nat_lt, ◌&&◌, false, true, cond, refl, subst, ◌<◌, length}
use Rattle.std.proofs.lemmas.Option.{slice_get-get_or}
use Rattle.std.specs.Prelude.{slice_get}
use Rattle.om_undo_touches.specs.declared.spans.SpanTouches.{SpanTouches}
use Rattle.om_foot.specs.declared.serials.Serials.TheVariants as serials
use Rattle.om_undo_touches.specs.Lists.{on_ok, on_err}
use Rattle.om_undo_touches.specs.Slots.{has_span}
use Rattle.om_undo_touches.proofs.SpanLemmas.{span_put, span_push, span_added, span_one, span_kept, some_same}
use Rattle.om_undo_touches.proofs.spans.Spans.add.Goals as goal

pub returns-then-index-count-clause-added : goal.returns-then-index-count-clause-added
returns-then-index-count-clause-added c =
    let xs = c.seek.self.spans.items in
    let k = c.seek.index in
    let old = c.index_mut.result.now in
    let x : SpanTouches = record { count = old.count; serials = c.put.new.self } in
    let within : k < length xs = omega (arith, c.seek-test.true, c.len-index-end.ensures, ap (λ v. length v.spans.items) c.seek.invariant, c.args.self.now.spans.ok) in
    let at : slice_get xs k ≡ Some old = slice_get-get_or xs k _ within ∙ ap Some (sym c.index_mut.ensures.value) in
    let read : slice_get xs k ≡ Some c.index.result.now = slice_get-get_or xs k _ within ∙ ap Some (sym c.index.ensures) in
    let is : old.count ≡ c.args.count = ap (λ (y : SpanTouches). y.count) (some_same old c.index.result.now (sym at ∙ read))
    ∙ c.if-index-count.true in
    on_ok c.put.result
    (λ added i s. span_put xs k old x i s (nat_eq c.args.serial s && nat_lt i c.args.count) at
    (span_added old x c.args.count i s c.args.serial is is (added s))
    ∙ ap (λ v. cond (nat_eq c.args.serial s && nat_lt i c.args.count) true (has_span v.spans.items i s)) c.seek.invariant)
    c.put.ensures.added

pub returns-then-index-count-clause-unchanged_on_error : goal.returns-then-index-count-clause-unchanged_on_error
returns-then-index-count-clause-unchanged_on_error c =
    let xs = c.seek.self.spans.items in
    let k = c.seek.index in
    let old = c.index_mut.result.now in
    let x : SpanTouches = record { count = old.count; serials = c.put.new.self } in
    let within : k < length xs = omega (arith, c.seek-test.true, c.len-index-end.ensures, ap (λ v. length v.spans.items) c.seek.invariant, c.args.self.now.spans.ok) in
    let at : slice_get xs k ≡ Some old = slice_get-get_or xs k _ within ∙ ap Some (sym c.index_mut.ensures.value) in
    on_err c.put.result
    (λ same i s. span_kept xs k old x i s at refl (same s) ∙ ap (λ v. has_span v.spans.items i s) c.seek.invariant)
    c.put.ensures.unchanged_on_error

pub returns-clause-added : goal.returns-clause-added
returns-clause-added c i s =
    let xs = c.seek.self.spans.items in
    let x : SpanTouches = record { count = c.args.count; serials = serials.One c.args.serial } in
    ap (λ ys. has_span ys i s) c.in_ok-push.ensures.items
    ∙ span_push xs x i s (nat_eq c.args.serial s && nat_lt i c.args.count) (span_one x i s c.args.serial c.args.count refl refl)
    ∙ ap (λ v. cond (nat_eq c.args.serial s && nat_lt i c.args.count) true (has_span v.spans.items i s)) c.seek.invariant
