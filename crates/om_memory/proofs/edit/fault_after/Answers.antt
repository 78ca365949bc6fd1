use Rattle.std.proofs.Common.{◌∙◌, ap}
use Rattle.om_memory.specs.Plain.{plain_control}
use Rattle.om_memory.specs.Faults.{fault_ahead, outlook_behind}
use Rattle.om_memory.proofs.Faults.{fault_behind}
use Rattle.om_memory.proofs.edit.fault_after.Goals as goal

pub loop-edit-init : goal.loop-edit-init
loop-edit-init c = record {
  same = ap (λ o. fault_ahead (outlook_behind c.args.edits.now o)) c.outlook_of-outlook.ensures.outlook
      ∙ fault_behind c.args.edits.now (plain_control c.args.control.now);
  low = c.outlook_of-outlook.ensures.low;
}
