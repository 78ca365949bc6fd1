use Rattle.std.proofs.Common.{◌∷◌, [], ◌∙◌, subst}
use Rattle.om_foot.specs.declared.footprint.Access.{Access}
use Rattle.om_undo_touches.specs.Touches.{has_single_touch, has_slot_touch, LosesOfEntry}
use Rattle.om_undo_touches.proofs.PartLemmas.{less_either, set_less}
use Rattle.om_undo_touches.proofs.touches.TouchLists.remove.Goals as goal

pub returns : goal.returns
returns c =
    let a = c.args.access.now in
    let lists = c.args.self.now in
    let slots = c.remove_at.new.self in
    less_either (a ∷ []) c.args.serial (has_single_touch lists.singles) (has_single_touch c.remove.new.self)
    (has_slot_touch lists.slots) (has_slot_touch slots)
    (set_less (a ∷ []) c.args.serial (has_single_touch lists.singles) (has_single_touch c.remove.new.self) c.remove.ensures)
    (subst (λ o. LosesOfEntry (record { object = o; mode = a.mode } ∷ []) c.args.serial (has_slot_touch lists.slots)
    (has_slot_touch slots)) (c.get.ensures ∙ c.object.ensures) (c.remove_at.ensures a.mode))
