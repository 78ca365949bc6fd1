use Rattle.std.proofs.Common.{sym, subst, take, ◌+◌, cond, true}
use Rattle.om_undo_touches.specs.Slots.{has_span}
use Rattle.om_foot.specs.Firsts.{sooner, IsFirst}
use Rattle.om_undo_touches.specs.Searches.{sooner-first, IsFirst-same}
use Rattle.om_undo_touches.proofs.SpanLemmas.{span_at, span_next}
use Rattle.std.proofs.Common.{Some}
use Rattle.om_undo_touches.proofs.spans.Spans.first_at.Goals as goal

pub loop-span-preserved : goal.loop-span-preserved
loop-span-preserved c =
    let xs = c.deref-span-items.result.now in
    let k = c.loop-span.span-index in
    let x = c.span-item.result in
    let i = c.args.index in
    subst (λ ys. IsFirst (has_span (take (k + 1) ys) i) c.args.serial c.sooner-first.result) c.deref-span-items.ensures.value
    (subst (IsFirst (has_span (take (k + 1) xs) i) c.args.serial) (sym c.sooner-first.ensures)
    (IsFirst-same (λ s. cond (has_span (take k xs) i s) true (span_at (Some x) i s)) (has_span (take (k + 1) xs) i)
    c.args.serial (sooner c.loop-span.first c.first_of.result)
    (λ s. sym (span_next xs k x i s c.loop-span-test.true c.span-item.is))
    (sooner-first (has_span (take k xs) i) (span_at (Some x) i) c.args.serial c.loop-span.first c.first_of.result
    (subst (λ ys. IsFirst (has_span (take k ys) i) c.args.serial c.loop-span.first) (sym c.deref-span-items.ensures.value)
    c.loop-span.invariant) c.first_of.ensures)))
