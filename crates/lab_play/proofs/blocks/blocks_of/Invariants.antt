use Rattle.std.proofs.Common.{◌≡◌, ◌++◌, map, drop}
use Rattle.om_undo_history.specs.Runs.{label_of}
use Rattle.lab_schedules.specs.Schedules.{labels_of}
use Rattle.lab_play.proofs.blocks.blocks_of.Given as goal

-- the steps so far and those that are left are all
abbrev pub invariant-loop-entry : goal.invariant-loop-entry
invariant-loop-entry l = labels_of l.blocks.items ++ map label_of (drop l.entry-index l.path) ≡ map label_of l.path
