use Rattle.std.proofs.Common.{◌∙◌}
use Rattle.lab_replay.proofs.Numbers.{fault_told}
use Rattle.lab_replay.proofs.Replays.{is_planned, has_room}
use Rattle.lab_replay.proofs.replay.remade.Goals as goal

pub take-requires-clause-room : goal.take-requires-clause-room
take-requires-clause-room c = has_room c.requires.planned.0 c.args.history.now c.args.label.now c.args.plan
    c.in-Updates.change c.in-Updates.is c.requires.planned.1

pub take-requires-clause-planned : goal.take-requires-clause-planned
take-requires-clause-planned c = (
  c.requires.planned.0,
  is_planned c.requires.planned.0 c.args.history.now c.args.label.now
      c.args.plan c.in-Updates.change c.in-Updates.is c.requires.planned.1,
)

pub returns-clause-fault : goal.returns-clause-fault
returns-clause-fault c = λ r planned.
    c.fault_in.ensures
    ∙ fault_told r c.args.history.now c.args.label.now c.in_ok-reply-in-Updates.reply planned.held
    (c.in_ok-reply-in-Updates.ensures.reply r
    (is_planned r c.args.history.now c.args.label.now c.args.plan c.in-Updates.change c.in-Updates.is planned))
