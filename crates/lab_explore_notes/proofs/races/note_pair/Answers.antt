use Rattle.std.proofs.Common.{◌≡◌, sym, ◌∙◌, false, rules}
use Rattle.lab_explore_notes.proofs.RaceLemmas.{no_race}
use Rattle.lab_explore_notes.proofs.races.note_pair.Goals as goal

pub returns-then-not-can_race-clause-noted : goal.returns-then-not-can_race-clause-noted
returns-then-not-can_race-clause-noted c =
    let no : c.can_race.result ≡ false = search rules in
    λ x x_at y y_at race order. absurd (no_race c.args.machine.now c.args.step.now c.args.other.now x y
    (sym c.can_race.ensures ∙ no) race)
