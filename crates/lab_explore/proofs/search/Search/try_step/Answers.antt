use Rattle.std.proofs.Common.{◌≡◌, sym, ◌∙◌, ap, subst, false, rules, ◌∷◌}
use Rattle.om_state.specs.declared.step.Label.{Label}
use Rattle.om_task.specs.Plans.{label_at}
use Rattle.om_undo.specs.Machines.{step_reply}
use Rattle.om_undo.specs.PlannedSteps.{PlannedView, is_made, planned_at}
use Rattle.om_undo_history.specs.Choices.{label_by}
use Rattle.lab_explore.specs.declared.search.Search.{Search}
use Rattle.lab_explore.specs.Acts.{Try}
use Rattle.lab_explore.specs.Searches.{acts_of, IsSearch}
use Rattle.lab_explore.proofs.SearchLemmas.{not_tried}
use Rattle.lab_explore.proofs.search.Search.try_step.Goals as goal

pub returns-then-not-is_possible-clause-goes_on : goal.returns-then-not-is_possible-clause-goes_on
returns-then-not-is_possible-clause-goes_on c =
    let x : Search = c.args.self.now in
    let l : Label = label_by c.args.worker c.args.start.now in
    let no : c.is_possible.result ≡ false = search rules in
    let planned : c.in_ok-step.step ≡ planned_at x.machine l =
    c.in_ok-step.ensures ∙ ap (λ choice. planned_at x.machine (label_at c.args.worker choice)) c.choice_of.ensures in
    not_tried x.machine.program x.machine.workers l (acts_of x) x c.requires.search
    (ap (λ (p : PlannedView). is_made (step_reply p.machine p.label)) (sym planned)
    ∙ sym c.is_possible.ensures ∙ no)

pub go-requires-clause-search : goal.go-requires-clause-search
go-requires-clause-search c =
    let x : Search = c.args.self.now in
    let l : Label = label_by c.args.worker c.args.start.now in
    let planned : c.in_ok-step.step ≡ planned_at x.machine l =
    c.in_ok-step.ensures ∙ ap (λ choice. planned_at x.machine (label_at c.args.worker choice)) c.choice_of.ensures in
    subst (λ (k : Label). IsSearch x.machine.program x.machine.workers (Try k ∷ acts_of x) x)
    (sym (ap (λ (p : PlannedView). p.label) planned)) c.requires.search
