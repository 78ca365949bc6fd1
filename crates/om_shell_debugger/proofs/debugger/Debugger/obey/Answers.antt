use Rattle.std.proofs.Common.{ap}
use Rattle.om_shell_debugger.proofs.Saying.{on_both}
use Rattle.om_shell_debugger.proofs.debugger.Debugger.obey.Goals as goal

pub returns-in-Step : goal.returns-in-Step
returns-in-Step c =
    rw c.in-Step.is (on_both c.step.result (λ said. said)
    (λ left. ap (λ r. record { book = r; marks = c.args.self.now.marks }) left) c.step.ensures)

pub returns-in-Undo : goal.returns-in-Undo
returns-in-Undo c =
    rw c.in-Undo.is (on_both c.undo.result (λ said. said)
    (λ left. ap (λ r. record { book = r; marks = c.args.self.now.marks }) left) c.undo.ensures)

pub returns-in_default : goal.returns-in_default
returns-in_default c = c.obey_any.ensures
