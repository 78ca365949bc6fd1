use Rattle.std.proofs.Common.{take}
use Rattle.lab_explore_notes.specs.Notes.{Adds, AreAllNoted}
use Rattle.lab_explore_notes.proofs.races.note_races.Given as goal

-- the races of the steps so far are noted
abbrev pub invariant-loop-step : goal.invariant-loop-step
invariant-loop-step l = Adds l.machine l.fn.races l.races
    × AreAllNoted l.machine l.races (take l.step-index l.steps) l.steps
