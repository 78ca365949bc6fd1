use Rattle.om_soundness.proofs.AlonePrograms.{programs_start}
use Rattle.om_soundness.proofs.laws.programs_start.Goals as goal

pub returns : goal.returns
returns c = programs_start
