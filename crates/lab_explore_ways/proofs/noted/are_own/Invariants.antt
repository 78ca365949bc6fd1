use Rattle.std.proofs.Common.{map, drop}
use Rattle.om_undo_history.specs.Runs.{label_of}
use Rattle.lab_explore_closed.specs.Runs.{AreOf}
use Rattle.lab_explore_ways.proofs.noted.are_own.Given as goal

-- all are, where those that are left are
abbrev pub invariant-loop-entry : goal.invariant-loop-entry
invariant-loop-entry l = AreOf l.workers (map label_of (drop l.entry-index l.entries))
    → AreOf l.workers (map label_of l.entries)
