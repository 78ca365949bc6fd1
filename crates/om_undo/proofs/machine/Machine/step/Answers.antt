-- What the history takes is the step of the label under the program's rules.
use Rattle.std.proofs.Common.{◌≡◌, ◌∙◌, ap, sym, subst}
use Rattle.std.proofs.lemmas.Result.{on_ok_weaker}
use Rattle.om_state.specs.declared.step.Label.{Label}
use Rattle.om_state.specs.Rules.{Rules}
use Rattle.om_task.specs.Rules.{rules_of}
use Rattle.om_undo_history.specs.Choices.{label_by}
use Rattle.om_undo_history.specs.Runs.{History, after_step}
use Rattle.om_undo_history.specs.Pasts.{history_in}
use Rattle.om_undo.specs.Machines.{IsPlan}
use Rattle.om_undo.proofs.Planned.{label_is, replied_at}
use Rattle.om_undo.proofs.Views.{changed_view}
use Rattle.om_undo.proofs.machine.Machine.step.Goals as goal

pub taken-requires-clause-planned : goal.taken-requires-clause-planned
taken-requires-clause-planned c =
    let r : Rules = rules_of c.self.inside.program c.self.inside.workers in (
      r,
      subst (λ (l : Label). IsPlan r c.self.inside.history l c.in_ok-plan.plan)
          (c.label-label.ensures ∙ sym (label_is c.args.worker c.in_ok-start.start c.args.choice c.in_ok-start.ensures))
          c.in_ok-plan.ensures,
    )

pub returns-clause-reply : goal.returns-clause-reply
returns-clause-reply c =
    let r : Rules = rules_of c.self.inside.program c.self.inside.workers in
    let l : Label = record { worker = c.args.worker; choice = c.args.choice } in
    let same : label_by c.args.worker c.in_ok-start.start ≡ l =
    label_is c.args.worker c.in_ok-start.start c.args.choice c.in_ok-start.ensures in
    let is = subst (λ (k : Label). IsPlan r c.self.inside.history k c.in_ok-plan.plan)
    (c.label-label.ensures ∙ sym same) c.in_ok-plan.ensures in
    replied_at c.taken.result c.self.inside.program c.self.inside.workers c.self.inside.history c.args.self.now
    (label_by c.args.worker c.in_ok-start.start) l c.in_ok-plan.plan c.self.view_is same is c.taken.ensures.reply

pub returns-clause-after : goal.returns-clause-after
returns-clause-after c =
    let r : Rules = rules_of c.self.inside.program c.self.inside.workers in
    let l : Label = record { worker = c.args.worker; choice = c.args.choice } in
    let same : label_by c.args.worker c.in_ok-start.start ≡ l =
    label_is c.args.worker c.in_ok-start.start c.args.choice c.in_ok-start.ensures in
    let is = subst (λ (k : Label). IsPlan r c.self.inside.history k c.in_ok-plan.plan)
    (c.label-label.ensures ∙ sym same) c.in_ok-plan.ensures in
    on_ok_weaker c.taken.result
    (λ takes. changed_view c.self.inside.program c.self.inside.workers (history_in c.self.inside.history)
    (history_in c.taken.new.history) c.args.self.now (λ (q : Rules) (h : History). after_step q h l) c.self.view_is
    ((takes r is).0 ∙ ap (after_step r (history_in c.self.inside.history)) same))
    c.taken.ensures.after
