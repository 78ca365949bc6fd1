use Rattle.std.proofs.Common.{sym, subst, ap, ◌∙◌, [], ◌∷◌, ◌++◌}
use Rattle.om_foot.specs.Cells.{cells_listed}
use Rattle.om_undo_touches.specs.Accesses.{control_write, accesses_of}
use Rattle.om_undo_touches.specs.Touches.{has_touch, LosesOfEntry}
use Rattle.om_undo_touches.specs.declared.touches.TouchLists.{TouchLists}
use Rattle.om_undo_touches.proofs.PartLemmas.{less-append, less_out, control_out}
use Rattle.om_undo_touches.proofs.touches.TouchLists.remove_all.Goals as goal

pub returns : goal.returns
returns c =
    let xs = c.parts.result.0.now in
    let ys = cells_listed c.parts.result.1.now in
    let zs = c.parts.result.2.now in
    let serial = c.args.serial in
    let lists = c.args.self.now in
    let own : TouchLists = record { singles = c.remove_control.new.self; slots = lists.slots } in
    let control = control_write c.worker-worker.result in
    let all = c.parts.ensures.all ∙ ap (λ w. control_write w ∷ (xs ++ (ys ++ zs))) (sym c.worker-worker.ensures) in
    less_out (accesses_of c.args.footprint.now) serial lists c.remove_each-2.new.self c.requires
    (subst (λ l. LosesOfEntry l serial (has_touch lists) (has_touch c.remove_each-2.new.self)) (sym all)
    (less-append (control ∷ []) (xs ++ (ys ++ zs)) serial (has_touch lists) (has_touch own)
    (has_touch c.remove_each-2.new.self)
    (control_out c.worker-worker.result serial lists.singles c.remove_control.new.self lists.slots c.remove_control.ensures)
    (less-append xs (ys ++ zs) serial (has_touch own) (has_touch c.remove_each.new.self)
    (has_touch c.remove_each-2.new.self) c.remove_each.ensures
    (less-append ys zs serial (has_touch c.remove_each.new.self) (has_touch c.remove_each_in.new.self)
    (has_touch c.remove_each-2.new.self) c.remove_each_in.ensures c.remove_each-2.ensures))))
