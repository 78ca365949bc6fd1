use Rattle.std.proofs.Common.{◌∙◌, sym, ap}
use Rattle.om_foot.specs.Footprint.{obj_eq}
use Rattle.om_foot.specs.Objects.{obj_eq-true}
use Rattle.om_cells.specs.Slots.{slot_value}
use Rattle.om_cells.specs.Stores.{kept_in}
use Rattle.om_cells.proofs.CellStates.{over_single, over_none, slot_some, single_none, single_some, single_put, slot_put}
use Rattle.om_cells.proofs.store.Store.put.Goals as goal

pub put-requires : goal.put-requires
put-requires c = slot_some _ _ (sym c.lies_in_slot.ensures ∙ c.if-lies_in_slot.true)

pub put_single-requires : goal.put_single-requires
put_single-requires c = single_some (slot_value c.args.self.now.slots c.args.object.now) _
    (sym c.lies_in_slot.ensures ∙ c.if-lies_in_slot.false) c.requires

pub returns-then-lies_in_slot-clause-before : goal.returns-then-lies_in_slot-clause-before
returns-then-lies_in_slot-clause-before c =
    over_none _ _ _ (sym (single_none _ _ (sym c.lies_in_slot.ensures ∙ c.if-lies_in_slot.true))) c.put.ensures.before

pub returns-then-lies_in_slot-clause-after : goal.returns-then-lies_in_slot-clause-after
returns-then-lies_in_slot-clause-after c = λ q.
    let ks = kept_in c.args.self.now.unnamed c.args.self.now.named in
    slot_put (obj_eq c.args.object.now q) c.args.value (slot_value c.args.self.now.slots q) (ks q) _
    (λ e. ap ks (sym (obj_eq-true c.args.object.now q e))
    ∙ single_none _ _ (sym c.lies_in_slot.ensures ∙ c.if-lies_in_slot.true)) (c.put.ensures.after q)

pub returns-else-lies_in_slot-clause-before : goal.returns-else-lies_in_slot-clause-before
returns-else-lies_in_slot-clause-before c = over_single c.put_single.result _ _ c.put_single.ensures.before

pub returns-else-lies_in_slot-clause-after : goal.returns-else-lies_in_slot-clause-after
returns-else-lies_in_slot-clause-after c = λ q.
    single_put (obj_eq c.args.object.now q) c.args.value (slot_value c.args.self.now.slots q) _ _
    (c.put_single.ensures.after q)
