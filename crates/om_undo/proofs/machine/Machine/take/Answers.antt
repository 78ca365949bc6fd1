-- What was planned at the machine is the plan where its history stands.
use Rattle.std.proofs.Common.{◌∙◌, ap, refl}
use Rattle.std.proofs.lemmas.Result.{on_ok_weaker}
use Rattle.om_state.specs.declared.step.Label.{Label}
use Rattle.om_state.specs.Rules.{Rules}
use Rattle.om_task.specs.Rules.{rules_of}
use Rattle.om_undo_history.specs.Choices.{label_by}
use Rattle.om_undo_history.specs.Runs.{History, after_step}
use Rattle.om_undo_history.specs.Pasts.{history_in}
use Rattle.om_undo.proofs.Planned.{held_after, plan_taken, replied_at}
use Rattle.om_undo.proofs.Views.{changed_view}
use Rattle.om_undo.proofs.machine.Machine.take.Goals as goal

pub taken-requires-clause-planned : goal.taken-requires-clause-planned
taken-requires-clause-planned c =
    let l : Label = label_by c.step.inside.worker c.step.inside.start in (
      rules_of c.self.inside.program c.self.inside.workers,
      (plan_taken c.self.inside.program c.self.inside.workers c.self.inside.history c.args.self.now
          c.step.inside.at.value l l c.step.inside.plan c.args.step c.self.view_is
          c.self.invariant.held c.step.view_is c.requires.planned c.step.invariant refl).0,
    )

pub invariant_of-self : goal.invariant_of-self
invariant_of-self c =
    let r : Rules = rules_of c.self.inside.program c.self.inside.workers in
    let l : Label = label_by c.step.inside.worker c.step.inside.start in
    let is = plan_taken c.self.inside.program c.self.inside.workers c.self.inside.history c.args.self.now
    c.step.inside.at.value l l c.step.inside.plan c.args.step c.self.view_is
    c.self.invariant.held c.step.view_is c.requires.planned c.step.invariant refl in
    record {
      at_least_one = c.self.invariant.at_least_one;
      at_most_32 = c.self.invariant.at_most_32;
      held = held_after c.taken.result r c.self.inside.history c.taken.new.history l
          c.step.inside.plan c.taken.ensures.after c.taken.ensures.unchanged_on_error is.0;
    }

pub returns-clause-reply : goal.returns-clause-reply
returns-clause-reply c =
    let l : Label = label_by c.step.inside.worker c.step.inside.start in
    let is = plan_taken c.self.inside.program c.self.inside.workers c.self.inside.history c.args.self.now
    c.step.inside.at.value l l c.step.inside.plan c.args.step c.self.view_is
    c.self.invariant.held c.step.view_is c.requires.planned c.step.invariant refl in
    replied_at c.taken.result c.self.inside.program c.self.inside.workers c.self.inside.history c.args.self.now
    l c.args.step.label c.step.inside.plan c.self.view_is is.1 is.0 c.taken.ensures.reply

pub returns-clause-after : goal.returns-clause-after
returns-clause-after c =
    let r : Rules = rules_of c.self.inside.program c.self.inside.workers in
    let l : Label = label_by c.step.inside.worker c.step.inside.start in
    let is = plan_taken c.self.inside.program c.self.inside.workers c.self.inside.history c.args.self.now
    c.step.inside.at.value l l c.step.inside.plan c.args.step c.self.view_is
    c.self.invariant.held c.step.view_is c.requires.planned c.step.invariant refl in
    on_ok_weaker c.taken.result
    (λ takes. changed_view c.self.inside.program c.self.inside.workers (history_in c.self.inside.history)
    (history_in c.taken.new.history) c.args.self.now (λ (q : Rules) (h : History). after_step q h c.args.step.label)
    c.self.view_is
    ((takes r is.0).0 ∙ ap (after_step r (history_in c.self.inside.history)) is.1))
    c.taken.ensures.after
