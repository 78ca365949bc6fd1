use Rattle.std.proofs.Common.{rules}
use Rattle.om_drive.proofs.Rounding.{begins_none, begins_all}
use Rattle.om_drive.proofs.driving.asked.Goals as goal

pub returns-then-senders-orders-clause-part : goal.returns-then-senders-orders-clause-part
returns-then-senders-orders-clause-part g c = search (rules, begins_none, begins_all)
