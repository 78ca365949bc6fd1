use Rattle.std.proofs.Common.{◌∙◌, ap}
use Rattle.std.specs.Prelude.{is_some}
use Rattle.om_cells.proofs.PlaceLemmas.{put_unnamed, put_named, owner_none, owner_some, kept_unnamed, kept_named, puts_part}
use Rattle.om_cells.proofs.store.put_single.Goals as goal

pub put-requires : goal.put-requires
put-requires c = ap is_some (kept_unnamed c.args.unnamed.now c.args.named.now c.args.object.now c.part_of-part.result
    (owner_none c.name_of.result _ c.name_of.ensures c.in-None.is) c.part_of-part.ensures) ∙ c.requires

pub returns-in-None-clause-before : goal.returns-in-None-clause-before
returns-in-None-clause-before c = c.put.ensures.before
    ∙ kept_unnamed c.args.unnamed.now c.args.named.now c.args.object.now c.part_of-part.result
    (owner_none c.name_of.result _ c.name_of.ensures c.in-None.is) c.part_of-part.ensures

pub returns-in-None-clause-after : goal.returns-in-None-clause-after
returns-in-None-clause-after c = put_unnamed c.args.unnamed.now c.put.new.self c.args.named.now
    c.args.object.now _ (owner_none c.name_of.result _ c.name_of.ensures c.in-None.is)
    (puts_part c.part_of-part.result _ _ c.args.unnamed.now c.put.new.self c.part_of-part.ensures
    c.put.ensures.after)

pub returns-in-Some-clause-before : goal.returns-in-Some-clause-before
returns-in-Some-clause-before c = c.put-in-Some.ensures.before
    ∙ kept_named c.args.unnamed.now c.args.named.now c.args.object.now c.in-Some.name.now c.part_of-part.result
    (owner_some c.name_of.result _ c.in-Some.name c.name_of.ensures c.in-Some.is) c.part_of-part.ensures

pub returns-in-Some-clause-after : goal.returns-in-Some-clause-after
returns-in-Some-clause-after c = put_named c.args.unnamed.now c.args.named.now c.put-in-Some.new.self
    c.in-Some.name.now c.part_of-part.result _ c.put-in-Some.ensures.after c.args.object.now
    (owner_some c.name_of.result _ c.in-Some.name c.name_of.ensures c.in-Some.is) c.part_of-part.ensures
