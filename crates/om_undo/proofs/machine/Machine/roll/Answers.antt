-- What the history replies under the program's rules.
use Rattle.std.proofs.Common.{◌≡◌, subst, IfOk}
use Rattle.std.proofs.lemmas.Result.{IfOk-weaker, on_ok_weaker}
use Rattle.om_state.specs.Rules.{Rules}
use Rattle.om_task.specs.Rules.{rules_of}
use Rattle.om_undo_history.specs.Runs.{History}
use Rattle.om_undo_history.specs.Cones.{reply_to_roll, after_roll}
use Rattle.om_undo_history.specs.Commands.{TakesCone}
use Rattle.om_undo_history.specs.Pasts.{history_in}
use Rattle.om_undo.specs.Machines.{MachineView, rules_for}
use Rattle.om_undo.proofs.Views.{changed_view}
use Rattle.om_undo.proofs.machine.Machine.roll.Goals as goal

pub returns-clause-reply : goal.returns-clause-reply
returns-clause-reply c =
    subst (λ (m : MachineView). IfOk c.roll.result (λ x. x ≡ reply_to_roll (rules_for m) m.history c.args.serial))
    c.self.view_is
    (IfOk-weaker c.roll.result _ _
    (λ x is. is (rules_of c.self.inside.program c.self.inside.workers) c.self.invariant.held) c.roll.ensures.reply)

pub returns-clause-after : goal.returns-clause-after
returns-clause-after c =
    on_ok_weaker c.roll.result
    (λ becomes. changed_view c.self.inside.program c.self.inside.workers (history_in c.self.inside.history)
    (history_in c.roll.new.self) c.args.self.now (λ (r : Rules) (h : History). after_roll r h c.args.serial)
    c.self.view_is (becomes (rules_of c.self.inside.program c.self.inside.workers) c.self.invariant.held).0)
    c.roll.ensures.after

pub returns-clause-takes_cone : goal.returns-clause-takes_cone
returns-clause-takes_cone c =
    on_ok_weaker c.roll.result
    (λ takes. subst
    (λ (m : MachineView). TakesCone (rules_for m) m.history c.args.serial (history_in c.roll.new.self)) c.self.view_is
    (takes (rules_of c.self.inside.program c.self.inside.workers) c.self.invariant.held)) c.roll.ensures.takes_cone
