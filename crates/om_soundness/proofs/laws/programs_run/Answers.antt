use Rattle.om_soundness.proofs.AlonePrograms.{programs_run}
use Rattle.om_soundness.proofs.laws.programs_run.Goals as goal

pub returns : goal.returns
returns c = programs_run c.serial_meaning.ensures
