use Rattle.std.proofs.Common.{◌∷◌}
use Rattle.om_soundness.specs.Running.{HasRun}
use Rattle.om_soundness.proofs.Replays.{have_own}
use Rattle.om_soundness.proofs.Runs.{step_stands}
use Rattle.om_soundness.proofs.laws.steps_stand.Goals as goal

pub returns : goal.returns
returns c = λ program workers ls before after l s t valid some parts reached h e.
    step_stands program (HasRun program workers ls) workers s t l valid some
    (have_own program workers ls before (l ∷ after) s parts reached) h e
