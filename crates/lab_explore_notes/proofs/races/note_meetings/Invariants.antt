use Rattle.std.proofs.Common.{take}
use Rattle.lab_explore_notes.specs.Notes.{Adds, AreMeetingsNoted}
use Rattle.lab_explore_notes.proofs.races.note_meetings.Given as goal

-- the races of the accesses so far are noted
abbrev pub invariant-loop-access : goal.invariant-loop-access
invariant-loop-access l = Adds l.machine l.fn.races l.races
    × AreMeetingsNoted l.machine l.races l.step.label l.other.label (take l.access-index l.step.accesses)
    l.other.accesses
