use Rattle.std.proofs.Common.{◌∙◌, ap, ◌++◌, ◌-◌, ◌+◌, refl, arith}
use Rattle.std.proofs.lemmas.Option.{slice_get_read}
use Rattle.om_cells.specs.Slots.{olds}
use Rattle.om_cells.proofs.SlotLemmas.{olds_past}
use Rattle.om_cells.proofs.slots.noted.Goals as goal

pub loop-index-preserved : goal.loop-index-preserved
loop-index-preserved c = λ slot s mirrors.
    let i = c.loop-index.index in
    let vs = c.args.values.now in
    ap (λ us. us ++ olds slot (i + 1) (c.args.count - (i + 1)) (s c.args.values.now)) c.in_ok-note.ensures
    ∙ olds_past c.loop-index.noted slot i c.args.count (s vs) c.index-values-index.result c.loop-index-test.true
    (mirrors.has i c.loop-index-test.true vs c.index-values-index.result
    (slice_get_read vs _ i c.index-values-index.result refl (omega (arith, c.loop-index-test.true, c.requires))
    c.index-values-index.is))
    ∙ c.loop-index.invariant slot s mirrors
