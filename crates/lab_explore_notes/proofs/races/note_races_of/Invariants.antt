use Rattle.std.proofs.Common.{take}
use Rattle.lab_explore_notes.specs.Notes.{Adds, AreNotedOf}
use Rattle.lab_explore_notes.proofs.races.note_races_of.Given as goal

-- the races with the steps so far are noted
abbrev pub invariant-loop-other : goal.invariant-loop-other
invariant-loop-other l = Adds l.machine l.fn.races l.races
    × AreNotedOf l.machine l.races l.step (take l.other-index l.others)
