use Rattle.std.proofs.Common.{◌≡◌, sym, ◌∙◌, true, false, rules}
use Rattle.lab_explore_notes.proofs.RaceLemmas.{can_be, no_conflict}
use Rattle.lab_explore_notes.proofs.races.note_conflict.Goals as goal

pub returns-then-not-are_racing-clause-noted : goal.returns-then-not-are_racing-clause-noted
returns-then-not-are_racing-clause-noted c =
    let no : c.are_racing.result ≡ false = search rules in
    λ race order. absurd (no_conflict c.args.machine.now c.args.first.step.now c.args.second.step.now
    c.args.first.access.now c.args.second.access.now c.requires.step c.requires.other
    (sym c.are_racing.ensures ∙ no) race)

pub note_race-requires-clause-race : goal.note_race-requires-clause-race
note_race-requires-clause-race c =
    let yes : c.are_racing.result ≡ true = search rules in
    can_be c.args.machine.now c.args.first.step.now c.args.second.step.now c.args.first.access.now
    c.args.second.access.now c.requires.step c.requires.other c.requires.can c.requires.access c.requires.other_access
    (sym c.are_racing.ensures ∙ yes)
