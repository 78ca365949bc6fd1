use Rattle.std.proofs.Common.{◌≡◌, ◌<◌, ◌∙◌, ap, sym, Some, arith, length, nat_eq, refl, subst}
use Rattle.std.proofs.lemmas.Option.{slice_get-get_or}
use Rattle.std.proofs.lemmas.List.{length-set}
use Rattle.om_undo_touches.proofs.SpanLemmas.{taken_next, taken_all, AreTaken}
use Rattle.om_undo_touches.proofs.spans.Spans.remove.Goals as goal

pub take-preserved : goal.take-preserved
take-preserved c =
    let xs = c.take.self.spans.items in
    let k = c.take.index in
    let within : k < length xs = omega (arith, c.take-test.true, c.len-index-end.ensures, c.take.invariant.0, c.args.self.now.spans.ok) in
    taken_next c.args.serial k c.args.self.now.spans.items xs c.index_mut.result.now
    (record { count = c.index_mut.result.now.count; serials = c.take-in-take.new.self }) c.take.invariant
    (slice_get-get_or xs k _ within ∙ ap Some (sym c.index_mut.ensures.value)) refl c.take-in-take.ensures
    (length-set xs k _)

pub returns : goal.returns
returns c =
    taken_all c.args.serial c.args.self.now.spans.items c.take.self.spans.items
    (subst (λ k. AreTaken c.args.serial k c.args.self.now.spans.items c.take.self.spans.items)
    (omega (arith, c.take-test.false)) c.take.invariant)
