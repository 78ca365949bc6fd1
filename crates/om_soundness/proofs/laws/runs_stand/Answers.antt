use Rattle.std.proofs.Common.{refl, []}
use Rattle.om_task.specs.Rules.{start_of}
use Rattle.om_soundness.proofs.Replays.{rest_stands}
use Rattle.om_soundness.proofs.laws.runs_stand.Goals as goal

pub returns : goal.returns
returns c = λ program workers ls s valid some e.
    rest_stands program workers ls c.steps_stand.ensures [] ls (start_of program workers) s valid some refl refl
    (c.start_stands.ensures program workers ls valid) e
