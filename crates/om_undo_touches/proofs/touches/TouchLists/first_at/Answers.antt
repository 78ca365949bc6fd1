use Rattle.std.proofs.Common.{◌∙◌, sym, subst}
use Rattle.om_undo_touches.specs.Touches.{has_touch, has_single_touch, has_slot_touch, has_slot_write, meets_at}
use Rattle.om_foot.specs.Firsts.{IsFirst}
use Rattle.om_undo_touches.proofs.CellLemmas.{meets_slot}
use Rattle.om_undo_touches.proofs.PartLemmas.{first_access}
use Rattle.om_undo_touches.proofs.touches.TouchLists.first_at.Goals as goal

pub returns : goal.returns
returns c =
    let lists = c.args.self.now in
    let a = c.args.access.now in
    subst (IsFirst (meets_at (has_touch lists a.object) a.mode) c.args.serial) (sym c.sooner.ensures)
    (first_access (has_single_touch lists.singles) (has_slot_touch lists.slots) (has_slot_write lists.slots a.object)
    a.object a.mode c.args.serial c.first_at.result c.first_at-2.result (meets_slot lists.slots a.object a.mode)
    c.first_at.ensures
    (subst (λ o. IsFirst (has_slot_write lists.slots o) c.args.serial c.first_at-2.result)
    (c.get.ensures ∙ c.object.ensures) c.first_at-2.ensures))
