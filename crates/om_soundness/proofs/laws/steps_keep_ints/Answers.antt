use Rattle.om_soundness.proofs.IntRuns.{step_ints}
use Rattle.om_soundness.proofs.laws.steps_keep_ints.Goals as goal

pub returns : goal.returns
returns c = λ program workers l s t ints few h e. step_ints program workers s t l ints few h e
