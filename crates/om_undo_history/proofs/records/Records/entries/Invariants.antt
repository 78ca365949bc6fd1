use Rattle.std.proofs.Common.{◌≡◌, ◌++◌, drop}
use Rattle.std.specs.Map.{values_of}
use Rattle.om_undo_history.specs.Records.{entries_of}
use Rattle.om_undo_history.specs.Rows.{entries_in}
use Rattle.om_undo_history.proofs.records.Records.entries.Given as goal

-- the entries so far and those that are left are all
abbrev pub invariant-loop-row : goal.invariant-loop-row
invariant-loop-row l = l.entries.items ++ entries_of (values_of (entries_in (drop l.row-index l.row-items))) ≡ entries_of l.self
