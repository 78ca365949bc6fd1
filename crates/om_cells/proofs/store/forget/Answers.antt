use Rattle.om_cells.proofs.PlaceLemmas.{put_unnamed, put_named, owner_none, owner_some, puts_part}
use Rattle.om_cells.proofs.store.forget.Goals as goal

pub returns-in-None : goal.returns-in-None
returns-in-None c = put_unnamed c.args.unnamed.now c.remove.new.self c.args.named.now
    c.args.object.now _ (owner_none c.name_of.result _ c.name_of.ensures c.in-None.is)
    (puts_part c.part_of-part.result _ _ c.args.unnamed.now c.remove.new.self c.part_of-part.ensures
    c.remove.ensures)

pub returns-in-Some : goal.returns-in-Some
returns-in-Some c = put_named c.args.unnamed.now c.args.named.now c.remove-in-Some.new.self c.in-Some.name.now
    c.part_of-part.result _ c.remove-in-Some.ensures c.args.object.now
    (owner_some c.name_of.result _ c.in-Some.name c.name_of.ensures c.in-Some.is) c.part_of-part.ensures
