use Rattle.std.proofs.Common.{subst}
use Rattle.om_undo_history.specs.Records.{RepliesToUndo}
use Rattle.om_undo_history.proofs.records.Records.reply_to.Goals as goal

pub returns : goal.returns
returns c = subst (λ ks. RepliesToUndo c.args.serial ks c.reply_at.result) c.self.view_is c.reply_at.ensures
