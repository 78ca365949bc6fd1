use Rattle.std.proofs.Common.{subst, ℕ, ◌<◌, ◌≤◌, length, arith, ⊎_elim}
use Rattle.om_foot.specs.declared.footprint.Access.{Access}
use Rattle.lab_explore_notes.specs.Notes.{AreConflictsNoted}
use Rattle.lab_explore_notes.proofs.NoteLemmas.{take_cases_of, whole_of, at_place_of}
use Rattle.lab_explore_notes.proofs.RaceLemmas.{adds_on, conflicts_on}
use Rattle.lab_explore_notes.proofs.races.note_meetings.Goals as goal

pub note_conflicts-requires-clause-access : goal.note_conflicts-requires-clause-access
note_conflicts-requires-clause-access c =
    let less : c.loop-access.access-index < length c.as_slice-access-items.result.now = omega arith in
    at_place_of c.as_slice-access-items.result.now c.args.step.now.accesses c.as_slice-access-items.ensures
    c.loop-access.access-index c.access-item.result less
    c.access-item.is

pub loop-access-preserved : goal.loop-access-preserved
loop-access-preserved c =
    let i : ℕ = c.loop-access.access-index in
    let less : i < length c.as_slice-access-items.result.now = omega arith in (
      adds_on c.args.machine.now c.args.races.now c.loop-access.races c.note_conflicts.new.races
          c.loop-access.invariant.0 c.note_conflicts.ensures.adds,
      λ x at. ⊎_elim
          (λ old. conflicts_on c.args.machine.now c.loop-access.races c.note_conflicts.new.races
          c.args.step.now.label c.args.other.now.label x c.args.other.now.accesses c.note_conflicts.ensures.adds
          (c.loop-access.invariant.1 x old))
          (λ is. subst (λ (z : Access). AreConflictsNoted c.args.machine.now c.note_conflicts.new.races
          c.args.step.now.label c.args.other.now.label z c.args.other.now.accesses) is
          c.in_ok-note_conflicts.ensures.noted)
          (take_cases_of c.as_slice-access-items.result.now c.args.step.now.accesses
          c.as_slice-access-items.ensures i c.access-item.result x less c.access-item.is at),
    )

pub returns-clause-noted : goal.returns-clause-noted
returns-clause-noted c =
    let whole : length c.as_slice-access-items.result.now ≤ c.loop-access.access-index = omega arith in
    λ x at. c.loop-access.invariant.1 x
    (whole_of c.as_slice-access-items.result.now c.args.step.now.accesses c.as_slice-access-items.ensures
    c.loop-access.access-index x whole at)
