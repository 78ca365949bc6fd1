use Rattle.std.proofs.Common.{subst}
use Rattle.om_undo_touches.specs.Touches.{has_touch, meets}
use Rattle.om_foot.specs.Firsts.{IsFirst}
use Rattle.om_undo_history.proofs.Indexed.{none_behind}
use Rattle.om_undo_history.proofs.records.first_conflict.Goals as goal

pub returns-then-ends_at : goal.returns-then-ends_at
returns-then-ends_at c = none_behind c.args.kept.now c.args.lists.now c.args.undone.now.footprint c.args.serial
    c.requires.by_serial c.requires.lists (c.ends_at.ensures c.if-ends_at.true)

pub returns : goal.returns
returns c = subst (λ xs. IsFirst (meets (has_touch c.args.lists.now) xs) c.args.serial c.first_conflict.result)
    c.footprint.ensures c.first_conflict.ensures
