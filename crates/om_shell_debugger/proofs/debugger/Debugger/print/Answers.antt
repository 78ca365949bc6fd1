use Rattle.std.proofs.Common.{ap, refl, sym, ◌∙◌}
use Rattle.std.proofs.lemmas.Result.{on_ok_weaker}
use Rattle.om_shell_debugger.proofs.Saying.{on_both}
use Rattle.om_shell_debugger.proofs.debugger.Debugger.print.Goals as goal

pub returns-in-Some : goal.returns-in-Some
returns-in-Some c =
    let found = rw (c.program.ensures, c.machine.ensures.program) at (sym c.cell_of.ensures ∙ c.in-Some.is) in
    rw found (on_both c.print.result (λ said. said)
    (λ left. ap (λ r. record { book = r; marks = c.args.self.now.marks }) left) c.print.ensures)

pub returns-in-None : goal.returns-in-None
returns-in-None c =
    let found = rw (c.program.ensures, c.machine.ensures.program) at (sym c.cell_of.ensures ∙ c.in-None.is) in
    rw found (on_ok_weaker c.push_command_fault.result (λ said. (said, refl)) c.push_command_fault.ensures)
