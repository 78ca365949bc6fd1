use Rattle.std.proofs.Common.{take}
use Rattle.lab_explore_notes.specs.Notes.{Adds, AreConflictsNoted}
use Rattle.lab_explore_notes.proofs.races.note_conflicts.Given as goal

-- the races with the accesses so far are noted
abbrev pub invariant-loop-access : goal.invariant-loop-access
invariant-loop-access l = Adds l.machine l.fn.races l.races
    × AreConflictsNoted l.machine l.races l.first.step.now.label l.other.label l.first.access.now
    (take l.access-index l.other.accesses)
