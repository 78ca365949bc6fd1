use Rattle.std.proofs.Common.{◌∙◌, subst}
use Rattle.om_undo_touches.specs.Touches.{has_touch, meets}
use Rattle.om_foot.specs.Firsts.{IsFirst}
use Rattle.om_undo_history.proofs.Members.{meets-members}
use Rattle.om_undo_history.proofs.records.meets.Goals as goal

pub returns : goal.returns
returns c = λ ms are above. c.is_some.ensures ∙ meets-members ms c.args.members.now c.args.made.now
    c.first_conflict.result are above
    (subst (λ xs. IsFirst (meets (has_touch c.args.members.now) xs) 0 c.first_conflict.result) c.footprint.ensures
    c.first_conflict.ensures)
