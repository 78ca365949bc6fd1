use Rattle.std.proofs.Common.{◌≡◌, refl, drop}
use Rattle.om_undo_touches.specs.Accesses.{accesses_of}
use Rattle.om_undo_history.proofs.Holding.{own_kept, rest_kept}
use Rattle.om_undo_history.proofs.steps.make_changes.Goals as goal

pub change-requires-clause-kept : goal.change-requires-clause-kept
change-requires-clause-kept c =
    own_kept c.args.store.now c.args.owner (accesses_of c.args.making.now.footprint) c.requires.can.own c.requires.room

pub make_further-requires-clause-kept : goal.make_further-requires-clause-kept
make_further-requires-clause-kept c =
    rest_kept c.args.store.now c.change.new.self (accesses_of c.args.making.now.footprint)
    (drop 1 (accesses_of c.args.making.now.footprint)) refl c.change.ensures.kept c.requires.room
