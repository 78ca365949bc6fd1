use Rattle.std.proofs.Common.{ap}
use Rattle.std.proofs.lemmas.Result.{on_ok_weaker, on_err_weaker}
use Rattle.om_foot.specs.Footprint.{obj_eq}
use Rattle.om_cells.specs.Slots.{kept_over, slot_value}
use Rattle.om_cells.proofs.CellStates.{single_put}
use Rattle.om_cells.proofs.PlaceLemmas.{put_unnamed, put_named, stay_unnamed, stay_named, owner_none, owner_some, puts_part}
use Rattle.om_cells.proofs.store.Store.enter.Goals as goal

pub returns-in-None-clause-entered : goal.returns-in-None-clause-entered
returns-in-None-clause-entered c = on_ok_weaker c.enter.result
    (λ puts q. single_put (obj_eq c.args.object.now q) c.args.place (slot_value c.args.self.now.slots q) _ _
    (put_unnamed c.args.self.now.unnamed c.enter.new.self c.args.self.now.named c.args.object.now _
    (owner_none c.name_of.result _ c.name_of.ensures c.in-None.is)
    (puts_part c.part_of-part.result _ _ c.args.self.now.unnamed c.enter.new.self c.part_of-part.ensures puts) q))
    c.enter.ensures.entered

pub returns-in-None-clause-unchanged_on_error : goal.returns-in-None-clause-unchanged_on_error
returns-in-None-clause-unchanged_on_error c = on_err_weaker c.enter.result
    (λ stays q. ap (kept_over (slot_value c.args.self.now.slots q))
    (stay_unnamed c.args.self.now.unnamed c.enter.new.self c.args.self.now.named stays q))
    c.enter.ensures.unchanged_on_error

pub returns-in-Some-clause-entered : goal.returns-in-Some-clause-entered
returns-in-Some-clause-entered c = on_ok_weaker c.enter-in-Some.result
    (λ puts q. single_put (obj_eq c.args.object.now q) c.args.place (slot_value c.args.self.now.slots q) _ _
    (put_named c.args.self.now.unnamed c.args.self.now.named c.enter-in-Some.new.self c.in-Some.name.now
    c.part_of-part.result _ puts c.args.object.now
    (owner_some c.name_of.result _ c.in-Some.name c.name_of.ensures c.in-Some.is) c.part_of-part.ensures q))
    c.enter-in-Some.ensures.entered

pub returns-in-Some-clause-unchanged_on_error : goal.returns-in-Some-clause-unchanged_on_error
returns-in-Some-clause-unchanged_on_error c = on_err_weaker c.enter-in-Some.result
    (λ stays q. ap (kept_over (slot_value c.args.self.now.slots q))
    (stay_named c.args.self.now.unnamed c.args.self.now.named c.enter-in-Some.new.self stays q))
    c.enter-in-Some.ensures.unchanged_on_error
