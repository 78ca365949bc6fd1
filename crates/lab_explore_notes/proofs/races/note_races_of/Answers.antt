use Rattle.std.proofs.Common.{sym, subst, ℕ, ◌<◌, ◌≤◌, List, length, arith, ⊎_elim}
use Rattle.std.specs.Prelude.{Contains}
use Rattle.lab_explore_moves.specs.declared.possible.PossibleStep.{PossibleStep}
use Rattle.lab_explore_notes.specs.Notes.{AreMeetingsNoted}
use Rattle.lab_explore_notes.proofs.NoteLemmas.{take_cases, take_whole}
use Rattle.lab_explore_notes.proofs.RaceLemmas.{adds_on, meetings_on}
use Rattle.lab_explore_notes.proofs.races.note_races_of.Goals as goal

pub loop-other-preserved : goal.loop-other-preserved
loop-other-preserved c =
    let i : ℕ = c.loop-other.other-index in
    let qs : List PossibleStep = c.args.others.now in
    let less : i < length qs = omega arith in (
      adds_on c.args.machine.now c.args.races.now c.loop-other.races c.note_pair.new.races
          c.loop-other.invariant.0 c.note_pair.ensures.adds,
      λ q at. ⊎_elim
          (λ old. meetings_on c.args.machine.now c.loop-other.races c.note_pair.new.races
          c.args.step.now.label q.label c.args.step.now.accesses q.accesses c.note_pair.ensures.adds
          (c.loop-other.invariant.1 q old))
          (λ is. subst (λ (z : PossibleStep). AreMeetingsNoted c.args.machine.now c.note_pair.new.races
          c.args.step.now.label z.label c.args.step.now.accesses z.accesses) is
          c.in_ok-note_pair.ensures.noted)
          (take_cases qs i c.other-item.result q less c.other-item.is at),
    )

pub returns-clause-noted : goal.returns-clause-noted
returns-clause-noted c =
    let whole : length c.args.others.now ≤ c.loop-other.other-index = omega arith in
    λ q at. c.loop-other.invariant.1 q
    (subst (λ (qs : List PossibleStep). Contains qs q)
    (sym (take_whole c.args.others.now c.loop-other.other-index whole)) at)
