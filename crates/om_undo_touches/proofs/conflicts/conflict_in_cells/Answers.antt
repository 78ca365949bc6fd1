use Rattle.std.proofs.Common.{◌≡◌, ◌∙◌, sym, ap, drop, ◌+◌, Some, None}
use Rattle.om_foot.specs.Footprint.{conflict_of}
use Rattle.om_foot.specs.declared.object.Cells.{Cells}
use Rattle.om_foot.specs.Cells.{cells_of, cells_listed}
use Rattle.om_undo_touches.specs.Accesses.{accesses_of}
use Rattle.om_undo_touches.proofs.ConflictLemmas.{slots_next, conflict_first, conflict_not_first}
use Rattle.om_undo_touches.proofs.conflicts.conflict_in_cells.Goals as goal

pub returns-in-Some : goal.returns-in-Some
returns-in-Some c =
    let bs = accesses_of c.args.others.now in
    let i = c.loop-cells.cells-index in
    let x : Cells = c.cells-item.result in
    let rest = cells_listed (drop (i + 1) c.args.all.now) in
    let met : conflict_of (cells_of x) bs ≡ Some c.in-Some.object =
    sym (c.conflict_in_slot.ensures ∙ ap (λ (y : Cells). conflict_of (cells_of y) bs) c.cells.ensures)
    ∙ c.in-Some.is in
    sym (conflict_first (cells_of x) rest bs c.in-Some.object met)
    ∙ ap (λ y. conflict_of y bs) (sym (slots_next c.args.all.now i x c.loop-cells-test.true c.cells-item.is))
    ∙ c.loop-cells.invariant

pub loop-cells-preserved : goal.loop-cells-preserved
loop-cells-preserved c =
    let bs = accesses_of c.args.others.now in
    let i = c.loop-cells.cells-index in
    let x : Cells = c.cells-item.result in
    let rest = cells_listed (drop (i + 1) c.args.all.now) in
    let met : conflict_of (cells_of x) bs ≡ None =
    sym (c.conflict_in_slot.ensures ∙ ap (λ (y : Cells). conflict_of (cells_of y) bs) c.cells.ensures)
    ∙ c.in-None.is in
    sym (conflict_not_first (cells_of x) rest bs met)
    ∙ ap (λ y. conflict_of y bs) (sym (slots_next c.args.all.now i x c.loop-cells-test.true c.cells-item.is))
    ∙ c.loop-cells.invariant
