use Rattle.std.proofs.Common.{drop}
use Rattle.std.specs.Map.{values_of}
use Rattle.om_undo_history.specs.Rows.{entries_in}
use Rattle.om_undo_history.proofs.Members.{MembersTo}
use Rattle.om_undo_history.proofs.records.members.Given as goal

abbrev pub invariant-loop-row : goal.invariant-loop-row
invariant-loop-row l = MembersTo l.serial (values_of l.kept) (values_of (entries_in (drop l.row-index l.row-items))) l.names.items l.members
