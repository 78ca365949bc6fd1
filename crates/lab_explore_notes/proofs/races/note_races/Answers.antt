use Rattle.std.proofs.Common.{sym, subst, ℕ, ◌<◌, ◌≤◌, List, length, arith, ⊎_elim}
use Rattle.std.specs.Prelude.{Contains}
use Rattle.lab_explore_moves.specs.declared.possible.PossibleStep.{PossibleStep}
use Rattle.lab_explore_notes.specs.Notes.{AreNotedOf}
use Rattle.lab_explore_notes.proofs.NoteLemmas.{take_cases, take_whole}
use Rattle.lab_explore_notes.proofs.RaceLemmas.{adds_on, steps_on}
use Rattle.lab_explore_notes.proofs.races.note_races.Goals as goal

pub loop-step-preserved : goal.loop-step-preserved
loop-step-preserved c =
    let i : ℕ = c.loop-step.step-index in
    let ps : List PossibleStep = c.args.steps.now in
    let less : i < length ps = omega arith in (
      adds_on c.args.machine.now c.args.races.now c.loop-step.races c.note_races_of.new.races
          c.loop-step.invariant.0 c.note_races_of.ensures.adds,
      λ p at. ⊎_elim
          (λ old. steps_on c.args.machine.now c.loop-step.races c.note_races_of.new.races p ps
          c.note_races_of.ensures.adds (c.loop-step.invariant.1 p old))
          (λ is. subst (λ (z : PossibleStep). AreNotedOf c.args.machine.now c.note_races_of.new.races z ps) is
          c.in_ok-note_races_of.ensures.noted)
          (take_cases ps i c.step-item.result p less c.step-item.is at),
    )

pub returns-clause-noted : goal.returns-clause-noted
returns-clause-noted c =
    let whole : length c.args.steps.now ≤ c.loop-step.step-index = omega arith in
    λ p at. c.loop-step.invariant.1 p
    (subst (λ (ps : List PossibleStep). Contains ps p)
    (sym (take_whole c.args.steps.now c.loop-step.step-index whole)) at)
