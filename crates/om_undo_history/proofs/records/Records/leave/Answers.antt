use Rattle.std.proofs.Common.{subst}
use Rattle.std.specs.Map.{values_of}
use Rattle.om_undo_history.specs.Records.{IsOfSerial, LosesSerial}
use Rattle.om_undo_history.proofs.records.Records.leave.Goals as goal

pub returns-clause-left : goal.returns-clause-left
returns-clause-left c =
    subst (λ ks. LosesSerial c.args.serial ks (values_of c.leave.new.kept)) c.self.view_is c.leave.ensures.left

pub returns-clause-returned : goal.returns-clause-returned
returns-clause-returned c =
    subst (λ ks. IsOfSerial c.args.serial ks c.leave.result) c.self.view_is c.leave.ensures.returned
