use Rattle.om_soundness.proofs.AlonePrograms.{functions_run}
use Rattle.om_soundness.proofs.laws.functions_run.Goals as goal

pub returns : goal.returns
returns c = functions_run c.serial_meaning.ensures
