use Rattle.std.proofs.Common.{◌++◌, ◌∷◌, ◌∙◌, ap, sym, subst}
use Rattle.om_foot.specs.declared.object.Obj.TheVariants as object
use Rattle.om_foot.specs.declared.footprint.Mode.TheVariants as mode
use Rattle.om_foot.specs.Cells.{cells_listed}
use Rattle.om_undo_touches.specs.Accesses.{control_write}
use Rattle.om_undo_touches.specs.Touches.{has_touch, meets, meets_at}
use Rattle.om_undo_touches.specs.Searches.{sooner-first}
use Rattle.om_foot.specs.Firsts.{sooner, IsFirst}
use Rattle.om_undo_touches.proofs.PartLemmas.{first_parts, control_first}
use Rattle.om_undo_touches.proofs.touches.TouchLists.first_conflict.Goals as goal

pub returns : goal.returns
returns c =
    let touch = has_touch c.args.self.now in
    let xs = c.parts.result.0.now in
    let ys = cells_listed c.parts.result.1.now in
    let zs = c.parts.result.2.now in
    let s = c.args.serial in
    let w = c.worker.result in
    let all = c.parts.ensures.all ∙ ap (λ v. control_write v ∷ (xs ++ (ys ++ zs))) (sym c.worker.ensures) in
    subst (λ l. IsFirst (meets touch l) s c.sooner.result) (sym all)
    (subst (IsFirst (meets touch (control_write w ∷ (xs ++ (ys ++ zs)))) s)
    (sym (c.sooner.ensures ∙ ap (sooner c.first_at_control-control.result) (c.sooner-others.ensures
    ∙ ap (λ x. sooner x c.first_of-2.result) c.sooner-before.ensures)))
    (sooner-first (meets_at (touch (object.Control w)) mode.Write) (meets touch (xs ++ (ys ++ zs))) s
    c.first_at_control-control.result (sooner (sooner c.first_of.result c.first_in_any.result) c.first_of-2.result)
    (control_first c.args.self.now w s c.first_at_control-control.result c.first_at_control-control.ensures)
    (first_parts touch xs ys zs s c.first_of.result c.first_in_any.result c.first_of-2.result
    c.first_of.ensures c.first_in_any.ensures c.first_of-2.ensures)))
