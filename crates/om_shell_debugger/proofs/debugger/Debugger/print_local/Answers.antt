use Rattle.std.proofs.Common.{ap, refl, sym, ◌∙◌}
use Rattle.std.proofs.lemmas.Result.{on_ok_weaker}
use Rattle.om_shell_debugger.proofs.Saying.{on_both}
use Rattle.om_shell_debugger.proofs.debugger.Debugger.print_local.Goals as goal

pub returns-in-Global : goal.returns-in-Global
returns-in-Global c =
    let seen = rw c.machine-machine.ensures.left at c.worker_sees-seen.ensures in
    rw (sym seen ∙ c.in-Global.is) (on_both c.print.result (λ said. said)
    (λ left. ap (λ r. record { book = r; marks = c.args.self.now.marks }) left) c.print.ensures)

pub returns-in-Cell : goal.returns-in-Cell
returns-in-Cell c =
    let seen = rw c.machine-machine.ensures.left at c.worker_sees-seen.ensures in
    rw (sym seen ∙ c.in-Cell.is) (on_both c.print_local.result (λ said. said)
    (λ left. ap (λ r. record { book = r; marks = c.args.self.now.marks }) left) c.print_local.ensures)

pub returns-in-Nothing : goal.returns-in-Nothing
returns-in-Nothing c =
    let seen = rw c.machine-machine.ensures.left at c.worker_sees-seen.ensures in
    rw (sym seen ∙ c.in-Nothing.is)
    (on_ok_weaker c.push_command_fault.result (λ said. (said, refl)) c.push_command_fault.ensures)
