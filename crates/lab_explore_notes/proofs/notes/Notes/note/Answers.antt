use Rattle.std.proofs.Common.{◌≡◌, sym, ◌∙◌, ap, true, false, rules, List, length, ◌==◌}
use Rattle.lab_explore_moves.specs.declared.possible.PossibleStep.{PossibleStep}
use Rattle.lab_explore_notes.proofs.RaceLemmas.{all_noted, none_at_end, clash}
use Rattle.lab_explore_notes.proofs.notes.Notes.note.Goals as goal

pub returns-in_ok-note_end-clause-noted : goal.returns-in_ok-note_end-clause-noted
returns-in_ok-note_end-clause-noted c = record {
  end = λ _. c.in_ok-note_end.ensures.noted;
  faults = c.in_ok-note_faults.ensures.noted;
  races = all_noted c.args.machine.now c.args.steps.now c.note_races.new.races c.requires.possible
      c.in_ok-note_races.ensures.noted;
}

pub returns-else-is_empty-clause-noted : goal.returns-else-is_empty-clause-noted
returns-else-is_empty-clause-noted c = record {
  end = λ end.
      let none : c.is_empty.result ≡ false = search rules in
      let yes : c.is_empty.result ≡ true =
      c.is_empty.ensures ∙ ap (λ (ps : List PossibleStep). length ps == 0)
      (none_at_end c.args.machine.now c.args.steps.now c.requires.possible end) in
      absurd (clash (sym yes ∙ none));
  faults = c.in_ok-note_faults.ensures.noted;
  races = all_noted c.args.machine.now c.args.steps.now c.note_races.new.races c.requires.possible
      c.in_ok-note_races.ensures.noted;
}
