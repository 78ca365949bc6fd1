use Rattle.om_soundness.proofs.IntRuns.{start_has_ints}
use Rattle.om_soundness.proofs.laws.start_has_ints.Goals as goal

pub returns : goal.returns
returns c = λ program workers ints. start_has_ints program workers ints
