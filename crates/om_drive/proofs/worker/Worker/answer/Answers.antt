use Rattle.std.proofs.Common.{rules}
use Rattle.om_drive.proofs.Places.{last_made}
use Rattle.om_drive.proofs.worker.Worker.answer.Goals as goal

pub invariant_of-result : goal.invariant_of-result
invariant_of-result g c = search (rules, last_made)

pub returns-clause-made : goal.returns-clause-made
returns-clause-made g c = search (rules, last_made)
