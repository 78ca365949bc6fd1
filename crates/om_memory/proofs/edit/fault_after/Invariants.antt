-- The edits that are left lead to the fault to which all lead.
use Rattle.std.proofs.Common.{◌≡◌, drop}
use Rattle.om_state.specs.Edits.{changed}
use Rattle.om_memory.specs.Plain.{plain_control}
use Rattle.om_memory.specs.Faults.{fault_in, fault_ahead, outlook_behind, IsLow}
use Rattle.om_memory.proofs.edit.fault_after.Given as goal

abbrev pub invariant-loop-edit : goal.invariant-loop-edit
invariant-loop-edit l = record {
  same : fault_ahead (outlook_behind (drop l.edit-index l.edits) l.outlook)
      ≡ fault_in (changed l.edits (plain_control l.control));
  low : IsLow l.edit-index l.outlook;
}
