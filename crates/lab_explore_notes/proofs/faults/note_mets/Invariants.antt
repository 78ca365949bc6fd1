use Rattle.std.proofs.Common.{take, map}
use Rattle.std.specs.Prelude.{Contains}
use Rattle.lab_explore_closed.specs.declared.found.Met.{Met}
use Rattle.lab_explore_closed.specs.Explored.{met_of_found}
use Rattle.lab_explore_notes.specs.Notes.{AreFaults, Keeps}
use Rattle.lab_explore_notes.proofs.faults.note_mets.Given as goal

-- those so far are noted
abbrev pub invariant-loop-met : goal.invariant-loop-met
invariant-loop-met l = AreFaults l.machine.program l.machine.workers l.faults
    × Keeps met_of_found l.fn.faults l.faults
    × ((m : Met) → Contains (take l.met-index l.mets) m → Contains (map met_of_found l.faults) m)
