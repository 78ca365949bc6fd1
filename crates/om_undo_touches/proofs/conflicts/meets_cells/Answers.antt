use Rattle.std.proofs.Common.{◌≡◌, ◌∙◌, sym, ap, true, false, drop, ◌+◌, ◌++◌}
use Rattle.om_foot.specs.Footprint.{conflicts_with_any}
use Rattle.om_foot.specs.declared.object.Cells.{Cells}
use Rattle.om_foot.specs.Cells.{cells_of, cells_listed}
use Rattle.om_undo_touches.proofs.ConflictLemmas.{slots_next, met_first, met_not_first}
use Rattle.om_undo_touches.proofs.conflicts.meets_cells.Goals as goal

pub returns-then-meets_slot : goal.returns-then-meets_slot
returns-then-meets_slot c =
    let a = c.args.access.now in
    let i = c.loop-other.other-index in
    let x : Cells = c.other-item.result in
    let rest = cells_listed (drop (i + 1) c.args.others.now) in
    let met : conflicts_with_any a (cells_of x) ≡ true =
    sym (c.meets_slot.ensures ∙ ap (λ (y : Cells). conflicts_with_any a (cells_of y)) c.cells.ensures)
    ∙ c.if-meets_slot.true in
    sym (met_first a (cells_of x) rest met)
    ∙ ap (conflicts_with_any a) (sym (slots_next c.args.others.now i x c.loop-other-test.true c.other-item.is))
    ∙ c.loop-other.invariant

pub loop-other-preserved : goal.loop-other-preserved
loop-other-preserved c =
    let a = c.args.access.now in
    let i = c.loop-other.other-index in
    let x : Cells = c.other-item.result in
    let rest = cells_listed (drop (i + 1) c.args.others.now) in
    let met : conflicts_with_any a (cells_of x) ≡ false =
    sym (c.meets_slot.ensures ∙ ap (λ (y : Cells). conflicts_with_any a (cells_of y)) c.cells.ensures)
    ∙ c.if-meets_slot.false in
    sym (met_not_first a (cells_of x) rest met)
    ∙ ap (conflicts_with_any a) (sym (slots_next c.args.others.now i x c.loop-other-test.true c.other-item.is))
    ∙ c.loop-other.invariant
