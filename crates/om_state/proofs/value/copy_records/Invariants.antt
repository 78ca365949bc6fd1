use Rattle.std.proofs.Common.{◌≡◌, take}
use Rattle.om_state.proofs.value.copy_records.Given as goal

-- the records so far are copied
abbrev pub invariant-loop-event : goal.invariant-loop-event
invariant-loop-event l = l.copies.items ≡ take l.event-index l.records
