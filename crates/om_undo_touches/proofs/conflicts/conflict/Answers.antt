use Rattle.std.proofs.Common.{◌≡◌, ◌∙◌, sym, ap, ◌++◌, true, false, Some}
use Rattle.om_foot.specs.declared.footprint.Access.{Access}
use Rattle.om_foot.specs.Footprint.{conflicts_with_any, conflict_of}
use Rattle.om_foot.specs.Cells.{cells_listed}
use Rattle.om_undo_touches.specs.Accesses.{control_write, accesses_of}
use Rattle.om_undo_touches.proofs.ConflictLemmas.{conflict_first, conflict_not_first, conflict_here, conflict_behind}
use Rattle.om_undo_touches.proofs.conflicts.conflict.Goals as goal

pub returns-then-meets_any : goal.returns-then-meets_any
returns-then-meets_any c =
    let f = c.args.first.now in
    let bs = accesses_of c.args.others.now in
    ap (λ (a : Access). Some a.object) c.control-control.ensures
    ∙ sym (conflict_here (control_write f.worker) (f.first ++ (cells_listed f.cells ++ f.last)) bs
    (ap (λ a. conflicts_with_any a bs) (sym c.control-control.ensures) ∙ sym c.meets_any.ensures ∙ c.if-meets_any.true))

pub returns-in-Some : goal.returns-in-Some
returns-in-Some c =
    let bs = accesses_of c.args.others.now in
    let control = control_write c.args.first.now.worker in
    let unmet : conflicts_with_any control bs ≡ false =
    ap (λ a. conflicts_with_any a bs) (sym c.control-control.ensures) ∙ sym c.meets_any.ensures ∙ c.if-meets_any.false in
    let first = c.parts.result.0.now in
    let rest = cells_listed c.parts.result.1.now ++ c.parts.result.2.now in
    sym (conflict_first first rest bs c.in-Some.object (sym c.conflict_at.ensures ∙ c.in-Some.is))
    ∙ sym (conflict_behind control (first ++ rest) bs unmet) ∙ ap (λ y. conflict_of y bs) (sym c.parts.ensures.all)

pub returns-in-Some-conflict_in_cells : goal.returns-in-Some-conflict_in_cells
returns-in-Some-conflict_in_cells c =
    let bs = accesses_of c.args.others.now in
    let control = control_write c.args.first.now.worker in
    let unmet : conflicts_with_any control bs ≡ false =
    ap (λ a. conflicts_with_any a bs) (sym c.control-control.ensures) ∙ sym c.meets_any.ensures ∙ c.if-meets_any.false in
    let first = c.parts.result.0.now in
    let cells = cells_listed c.parts.result.1.now in
    let last = c.parts.result.2.now in
    sym (conflict_not_first first (cells ++ last) bs (sym c.conflict_at.ensures ∙ c.in-None.is)
    ∙ conflict_first cells last bs c.in-Some-conflict_in_cells.object
    (sym c.conflict_in_cells.ensures ∙ c.in-Some-conflict_in_cells.is))
    ∙ sym (conflict_behind control (first ++ (cells ++ last)) bs unmet) ∙ ap (λ y. conflict_of y bs) (sym c.parts.ensures.all)

pub returns-in-None-conflict_in_cells : goal.returns-in-None-conflict_in_cells
returns-in-None-conflict_in_cells c =
    let bs = accesses_of c.args.others.now in
    let control = control_write c.args.first.now.worker in
    let unmet : conflicts_with_any control bs ≡ false =
    ap (λ a. conflicts_with_any a bs) (sym c.control-control.ensures) ∙ sym c.meets_any.ensures ∙ c.if-meets_any.false in
    let first = c.parts.result.0.now in
    let cells = cells_listed c.parts.result.1.now in
    let last = c.parts.result.2.now in
    c.conflict_at-in-None-conflict_in_cells.ensures
    ∙ sym (conflict_not_first first (cells ++ last) bs (sym c.conflict_at.ensures ∙ c.in-None.is)
    ∙ conflict_not_first cells last bs (sym c.conflict_in_cells.ensures ∙ c.in-None-conflict_in_cells.is))
    ∙ sym (conflict_behind control (first ++ (cells ++ last)) bs unmet) ∙ ap (λ y. conflict_of y bs) (sym c.parts.ensures.all)
