use Rattle.std.proofs.Common.{sym, subst, ap, ◌∙◌, ◌+◌, List, take, ◌++◌, ◌∷◌, []}
use Rattle.std.specs.List.{AllZip}
use Rattle.std.proofs.lemmas.List.{take_more}
use Rattle.lab_graph.specs.declared.traced.Traced.{Traced}
use Rattle.lab_races.specs.declared.made.Made.{Made}
use Rattle.lab_races_history.specs.Histories.{IsMadeOf}
use Rattle.lab_races_history.proofs.Owning.{zip_push}
use Rattle.lab_races_history.proofs.history.made_by.Goals as goal

pub loop-step-preserved : goal.loop-step-preserved
loop-step-preserved c =
    let step : Traced = c.step-item.result in
    let steps : List Traced = c.args.steps.now in
    let here = c.loop-step.step-index in
    subst (λ (ms : List Made). AllZip IsMadeOf (take (here + 1) steps) ms) (sym c.in_ok-push.ensures.items)
    (subst (λ (ts : List Traced). AllZip IsMadeOf ts (c.loop-step.history.items ++ c.made_of.result ∷ []))
    (ap (λ (z : Traced). take here steps ++ z ∷ []) c.step-item.is ∙ sym (take_more steps here step c.loop-step-test.true))
    (zip_push (take here steps) c.loop-step.history.items step c.made_of.result c.loop-step.invariant c.made_of.ensures))
