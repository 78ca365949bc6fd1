use Rattle.om_undo.proofs.Planned.{is_planned, blocked_reply, ended_reply}
use Rattle.om_undo.proofs.machine.replied.Goals as goal

pub returns-in-Updates : goal.returns-in-Updates
returns-in-Updates c = λ l own r is. c.reply.ensures l own r (is_planned r c.args.history.now l
    c.args.plan.now c.in-Updates.change c.in-Updates.is is)

pub returns-in-Blocked : goal.returns-in-Blocked
returns-in-Blocked c = λ l own r is. blocked_reply r c.args.history.now l c.args.plan.now c.in-Blocked.why
    c.in-Blocked.is is

pub returns-in-Ended : goal.returns-in-Ended
returns-in-Ended c = λ l own r is. ended_reply r c.args.history.now l c.args.plan.now c.in-Ended.is is
