-- The undos of all end at what the roll leaves.
use Rattle.std.proofs.Common.{◌∙◌, sym, ap}
use Rattle.std.proofs.lemmas.List.{drop_all}
use Rattle.om_undo_history.specs.Pasts.{past_in, history_in}
use Rattle.om_undo_history.specs.Commands.{undone_by}
use Rattle.om_undo_history.proofs.Rolling.{rolled-is}
use Rattle.om_undo_history.proofs.history.History.take_out.Goals as goal

pub returns-clause-each : goal.returns-clause-each
returns-clause-each c = λ r held.
    let left = c.loop-member.invariant r held in (
      ap (undone_by r (history_in c.loop-member.self))
          (sym (drop_all c.loop-member.member-index c.args.taken.now c.loop-member-test.false))
          ∙ left.0,
      left.1,
    )

pub returns-clause-cone : goal.returns-clause-cone
returns-clause-cone c = λ serial r held is.
    let left = c.loop-member.invariant r held in (
      ap (undone_by r (history_in c.loop-member.self))
          (sym (drop_all c.loop-member.member-index c.args.taken.now c.loop-member-test.false))
          ∙ left.0 ∙ ap (undone_by r (history_in c.args.self.now)) is
          ∙ rolled-is r (past_in c.args.self.now) serial held.past,
      left.1,
    )
