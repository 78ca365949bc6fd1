use Rattle.std.proofs.Common.{sym, subst, ap, ◌∙◌, ◌∷◌, ◌++◌, take, true, ℕ}
use Rattle.om_foot.specs.Cells.{cells_listed}
use Rattle.om_undo_touches.specs.Accesses.{control_write}
use Rattle.om_undo_touches.specs.Touches.{has_touch, has_single_touch, has_slot_touch, IsSet}
use Rattle.om_undo_touches.specs.Lists.{on_ok, on_err}
use Rattle.om_undo_touches.proofs.PartLemmas.{either, on_any, added_parts, added_front, added_cells, added_last}
use Rattle.om_undo_touches.proofs.touches.TouchLists.add_each.Goals as goal

pub returns-in_err-add_front-clause-some_on_error : goal.returns-in_err-add_front-clause-some_on_error
returns-in_err-add_front-clause-some_on_error c =
    let old = has_single_touch c.args.self.now.singles in
    let mid = has_single_touch c.add_front.new.self in
    let cells = has_slot_touch c.args.self.now.slots in
    let xs = control_write c.worker-worker.result ∷ c.parts.result.0.now in
    let ys = cells_listed c.parts.result.1.now in
    let zs = c.parts.result.2.now in
    let serial = c.args.serial in
    let all = c.parts.ensures.all
    ∙ ap (λ w. control_write w ∷ (c.parts.result.0.now ++ (ys ++ zs))) (sym c.worker-worker.ensures) in
    on_any c.from_residual.result
    (subst (λ l. (n : ℕ) × IsSet true (take n l) serial (either old cells) (either mid cells)) (sym all)
    (added_front xs ys zs serial old mid mid cells cells c.in_err-add_front.ensures.some_on_error))

pub returns-in_err-add_each-clause-some_on_error : goal.returns-in_err-add_each-clause-some_on_error
returns-in_err-add_each-clause-some_on_error c =
    let old = has_single_touch c.args.self.now.singles in
    let mid = has_single_touch c.add_front.new.self in
    let cells = has_slot_touch c.args.self.now.slots in
    let xs = control_write c.worker-worker.result ∷ c.parts.result.0.now in
    let ys = cells_listed c.parts.result.1.now in
    let zs = c.parts.result.2.now in
    let serial = c.args.serial in
    let all = c.parts.ensures.all
    ∙ ap (λ w. control_write w ∷ (c.parts.result.0.now ++ (ys ++ zs))) (sym c.worker-worker.ensures) in
    let new_cells = has_slot_touch c.add_each.new.self in
    on_any c.from_residual-in_err-add_each.result
    (subst (λ l. (n : ℕ) × IsSet true (take n l) serial (either old cells) (either mid new_cells)) (sym all)
    (added_cells xs ys zs serial old mid mid cells new_cells c.in_ok-add_front.ensures.added
    c.in_err-add_each.ensures.some_on_error))

pub returns-clause-added : goal.returns-clause-added
returns-clause-added c =
    let old = has_single_touch c.args.self.now.singles in
    let mid = has_single_touch c.add_front.new.self in
    let cells = has_slot_touch c.args.self.now.slots in
    let xs = control_write c.worker-worker.result ∷ c.parts.result.0.now in
    let ys = cells_listed c.parts.result.1.now in
    let zs = c.parts.result.2.now in
    let serial = c.args.serial in
    let all = c.parts.ensures.all
    ∙ ap (λ w. control_write w ∷ (c.parts.result.0.now ++ (ys ++ zs))) (sym c.worker-worker.ensures) in
    let new_cells = has_slot_touch c.add_each.new.self in
    let new = has_single_touch c.add_each-2.new.self in
    on_ok c.add_each-2.result
    (λ added. subst (λ l. IsSet true l serial (either old cells) (either new new_cells)) (sym all)
    (added_parts xs ys zs serial old mid new cells new_cells c.in_ok-add_front.ensures.added
    c.in_ok-add_each.ensures.added added))
    c.add_each-2.ensures.added

pub returns-clause-some_on_error : goal.returns-clause-some_on_error
returns-clause-some_on_error c =
    let old = has_single_touch c.args.self.now.singles in
    let mid = has_single_touch c.add_front.new.self in
    let cells = has_slot_touch c.args.self.now.slots in
    let xs = control_write c.worker-worker.result ∷ c.parts.result.0.now in
    let ys = cells_listed c.parts.result.1.now in
    let zs = c.parts.result.2.now in
    let serial = c.args.serial in
    let all = c.parts.ensures.all
    ∙ ap (λ w. control_write w ∷ (c.parts.result.0.now ++ (ys ++ zs))) (sym c.worker-worker.ensures) in
    let new_cells = has_slot_touch c.add_each.new.self in
    let new = has_single_touch c.add_each-2.new.self in
    on_err c.add_each-2.result
    (λ added. subst (λ l. (n : ℕ) × IsSet true (take n l) serial (either old cells) (either new new_cells))
    (sym all)
    (added_last xs ys zs serial old mid new cells new_cells c.in_ok-add_front.ensures.added
    c.in_ok-add_each.ensures.added added))
    c.add_each-2.ensures.some_on_error
