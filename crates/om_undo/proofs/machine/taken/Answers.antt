use Rattle.std.proofs.lemmas.Result.{IfOk-weaker, on_ok_weaker}
use Rattle.om_undo_history.specs.Choices.{label_by}
use Rattle.om_undo.proofs.Planned.{is_planned, has_room, blocked_reply, blocked_after, ended_reply, ended_after}
use Rattle.om_undo.proofs.machine.taken.Goals as goal

pub take_by-requires-clause-planned : goal.take_by-requires-clause-planned
take_by-requires-clause-planned c = (
  c.requires.planned.0,
  is_planned c.requires.planned.0 c.args.history.now (label_by c.args.worker c.args.start)
      c.args.plan c.in-Updates.change c.in-Updates.is c.requires.planned.1,
)

pub take_by-requires-clause-room : goal.take_by-requires-clause-room
take_by-requires-clause-room c = has_room c.requires.planned.0 c.args.history.now
    (label_by c.args.worker c.args.start) c.args.plan c.in-Updates.change c.in-Updates.is c.requires.planned.1

pub returns-in-Updates-clause-reply : goal.returns-in-Updates-clause-reply
returns-in-Updates-clause-reply c = IfOk-weaker c.take_by.result _ _
    (λ x replies r is. replies r (is_planned r c.args.history.now (label_by c.args.worker c.args.start) c.args.plan
    c.in-Updates.change c.in-Updates.is is)) c.take_by.ensures.reply

pub returns-in-Updates-clause-after : goal.returns-in-Updates-clause-after
returns-in-Updates-clause-after c = on_ok_weaker c.take_by.result
    (λ takes r is. takes r (is_planned r c.args.history.now (label_by c.args.worker c.args.start) c.args.plan
    c.in-Updates.change c.in-Updates.is is)) c.take_by.ensures.after

pub returns-in-Blocked-clause-reply : goal.returns-in-Blocked-clause-reply
returns-in-Blocked-clause-reply c = λ r is. blocked_reply r c.args.history.now
    (label_by c.args.worker c.args.start) c.args.plan c.in-Blocked.why c.in-Blocked.is is

pub returns-in-Blocked-clause-after : goal.returns-in-Blocked-clause-after
returns-in-Blocked-clause-after c = λ r is. (
  blocked_after r c.args.history.now (label_by c.args.worker c.args.start) c.args.plan
      c.in-Blocked.why c.in-Blocked.is is,
  is.held,
)

pub returns-in-Ended-clause-reply : goal.returns-in-Ended-clause-reply
returns-in-Ended-clause-reply c = λ r is. ended_reply r c.args.history.now
    (label_by c.args.worker c.args.start) c.args.plan c.in-Ended.is is

pub returns-in-Ended-clause-after : goal.returns-in-Ended-clause-after
returns-in-Ended-clause-after c = λ r is. (
  ended_after r c.args.history.now (label_by c.args.worker c.args.start) c.args.plan c.in-Ended.is is,
  is.held,
)
