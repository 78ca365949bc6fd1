use Rattle.om_soundness.specs.Running.{HasRun}
use Rattle.om_soundness.proofs.Runs.{start_stands}
use Rattle.om_soundness.proofs.laws.start_stands.Goals as goal

pub returns : goal.returns
returns c = λ program workers ls valid. start_stands program (HasRun program workers ls) workers valid
