use Rattle.std.proofs.Common.{◌∙◌, ap, subst}
use Rattle.om_task.specs.Rules.{rules_of}
use Rattle.om_state.specs.Rules.{Rules}
use Rattle.om_undo_history.specs.Commands.{IsRun}
use Rattle.om_undo_history.specs.Pasts.{history_in}
use Rattle.om_undo_history.specs.Runs.{History, reply_to_undo}
use Rattle.om_undo_history.specs.Undos.{UndoReplies}
use Rattle.om_undo.specs.Machines.{MachineView, rules_for}
use Rattle.om_undo.specs.Exactness.{UndoesExactly}
use Rattle.om_undo.proofs.machine.Machine.undo.Goals as goal

pub returns-clause-reply : goal.returns-clause-reply
returns-clause-reply c =
    c.undo.ensures.reply (rules_of c.self.inside.program c.self.inside.workers) c.self.invariant.held
    ∙ ap (λ (m : MachineView). reply_to_undo (rules_for m) m.history c.args.worker) c.self.view_is

pub returns-clause-exactly : goal.returns-clause-exactly
returns-clause-exactly c =
    let r : Rules = rules_of c.self.inside.program c.self.inside.workers in
    let run : IsRun r (history_in c.self.inside.history) = c.self.invariant.held.past.reached in
    subst (λ (m : MachineView). UndoesExactly m c.args.worker) c.self.view_is
    (subst (λ (h : History). UndoReplies r h c.args.worker) run.is
    (c.exactly_where.ensures r run.commands c.args.worker))
