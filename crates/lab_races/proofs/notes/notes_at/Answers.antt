use Rattle.std.proofs.Common.{◌∙◌}
use Rattle.lab_races.proofs.Tables.{found_at, none_at}
use Rattle.lab_races.proofs.notes.notes_at.Goals as goal

pub returns-in-Some : goal.returns-in-Some
returns-in-Some c = c.as_slice.ensures.value
    ∙ found_at c.args.notes.now.entries c.args.object.now c.in-Some.sides.now c.in-Some.ensures.value

pub returns-in-None : goal.returns-in-None
returns-in-None c = none_at c.args.notes.now.entries c.args.object.now c.in-None.ensures.value
