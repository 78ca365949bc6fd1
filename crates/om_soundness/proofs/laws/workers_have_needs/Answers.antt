use Rattle.std.proofs.Common.{subst}
use Rattle.om_foot.specs.declared.object.Obj.TheVariants as obj
use Rattle.om_soundness.specs.Running.{HasRun}
use Rattle.om_soundness.specs.Standing.{IsStandingValue}
use Rattle.om_soundness.proofs.Runs.{has_its_needs}
use Rattle.om_soundness.proofs.laws.workers_have_needs.Goals as goal

pub returns : goal.returns
returns c = λ program workers ls s worker stack valid some e runs.
    has_its_needs program (HasRun program workers ls) stack valid
    (subst (IsStandingValue program (HasRun program workers ls)) runs
    ((c.runs_stand.ensures program workers ls s valid some e).values (obj.Control worker)))
