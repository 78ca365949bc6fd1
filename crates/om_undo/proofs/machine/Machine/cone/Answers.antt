use Rattle.std.proofs.Common.{◌≡◌, subst, IfOk}
use Rattle.std.specs.Prelude.{IfSome}
use Rattle.std.proofs.lemmas.Result.{IfOk-weaker}
use Rattle.std.proofs.lemmas.Option.{IfSome_then}
use Rattle.om_task.specs.Rules.{rules_of}
use Rattle.om_undo_history.specs.Cones.{taken_by_roll}
use Rattle.om_undo.specs.Machines.{MachineView, rules_for}
use Rattle.om_undo.proofs.machine.Machine.cone.Goals as goal

pub returns-clause-members : goal.returns-clause-members
returns-clause-members c =
    subst
    (λ (m : MachineView). IfOk c.cone.result
    (λ o. IfSome o (λ v. v.items ≡ taken_by_roll (rules_for m) m.history c.args.serial))) c.self.view_is
    (IfOk-weaker c.cone.result _ _
    (λ o found. IfSome_then o found
    (λ v is. is (rules_of c.self.inside.program c.self.inside.workers) c.self.invariant.held)) c.cone.ensures.members)
