use Rattle.std.proofs.Common.{refl}
use Rattle.om_task.specs.Rules.{start_of}
use Rattle.om_team_laws.proofs.Shared.{start_shared}
use Rattle.om_team_laws.proofs.Singles.{passes_old}
use Rattle.om_team_laws.proofs.Taken.{was_taken}
use Rattle.om_team_laws.proofs.laws.singles_are_run.Goals as goal

pub returns : goal.returns
returns c = λ program workers ls s t l team region e o.
    was_taken program workers ls (start_of program workers) s team region (start_shared program workers) refl
    (passes_old program workers s t l team region o) e
