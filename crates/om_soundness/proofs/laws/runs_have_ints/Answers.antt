use Rattle.om_task.specs.Rules.{start_of}
use Rattle.om_soundness.proofs.IntRuns.{rest_ints}
use Rattle.om_soundness.proofs.laws.runs_have_ints.Goals as goal

pub returns : goal.returns
returns c = λ program workers ls s ints few e.
    rest_ints c.steps_keep_ints.ensures program workers ls (start_of program workers) s ints few
    (c.start_has_ints.ensures program workers ints) e
