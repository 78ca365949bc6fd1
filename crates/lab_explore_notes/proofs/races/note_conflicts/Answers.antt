use Rattle.std.proofs.Common.{subst, ℕ, ◌<◌, ◌≤◌, length, arith, ⊎_elim}
use Rattle.om_foot.specs.declared.footprint.Access.{Access}
use Rattle.lab_explore_notes.specs.Notes.{IsRaceNoted}
use Rattle.lab_explore_notes.proofs.NoteLemmas.{take_cases_of, whole_of, at_place_of}
use Rattle.lab_explore_notes.proofs.RaceLemmas.{adds_on, race_on}
use Rattle.lab_explore_notes.proofs.races.note_conflicts.Goals as goal

pub note_conflict-requires-clause-other_access : goal.note_conflict-requires-clause-other_access
note_conflict-requires-clause-other_access c =
    let less : c.loop-access.access-index < length c.as_slice-access-items.result.now = omega arith in
    at_place_of c.as_slice-access-items.result.now c.args.other.now.accesses c.as_slice-access-items.ensures
    c.loop-access.access-index c.access-item.result less
    c.access-item.is

pub loop-access-preserved : goal.loop-access-preserved
loop-access-preserved c =
    let i : ℕ = c.loop-access.access-index in
    let less : i < length c.as_slice-access-items.result.now = omega arith in (
      adds_on c.args.machine.now c.args.races.now c.loop-access.races c.note_conflict.new.races
          c.loop-access.invariant.0 c.note_conflict.ensures.adds,
      λ y at. ⊎_elim
          (λ old. race_on c.args.machine.now c.loop-access.races c.note_conflict.new.races
          c.args.first.step.now.label c.args.other.now.label c.args.first.access.now y c.note_conflict.ensures.adds
          (c.loop-access.invariant.1 y old))
          (λ is. subst (λ (z : Access). IsRaceNoted c.args.machine.now c.note_conflict.new.races
          c.args.first.step.now.label c.args.other.now.label c.args.first.access.now z) is
          c.in_ok-note_conflict.ensures.noted)
          (take_cases_of c.as_slice-access-items.result.now c.args.other.now.accesses
          c.as_slice-access-items.ensures i c.access-item.result y less c.access-item.is at),
    )

pub returns-clause-noted : goal.returns-clause-noted
returns-clause-noted c =
    let whole : length c.as_slice-access-items.result.now ≤ c.loop-access.access-index = omega arith in
    λ y at. c.loop-access.invariant.1 y
    (whole_of c.as_slice-access-items.result.now c.args.other.now.accesses c.as_slice-access-items.ensures
    c.loop-access.access-index y whole at)
