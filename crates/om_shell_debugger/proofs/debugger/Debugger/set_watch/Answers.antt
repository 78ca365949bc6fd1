use Rattle.std.proofs.Common.{ap, refl, sym, ◌∙◌}
use Rattle.std.proofs.lemmas.Result.{on_ok_weaker}
use Rattle.om_shell_debugger.proofs.debugger.Debugger.set_watch.Goals as goal

pub returns-in_ok-set_watch-in-Some : goal.returns-in_ok-set_watch-in-Some
returns-in_ok-set_watch-in-Some c =
    let found = rw (c.program.ensures, c.machine.ensures.program) at (sym c.cell_of.ensures ∙ c.in-Some.is) in
    rw found (on_ok_weaker c.push_watch.result
    (λ said. (said, ap (λ m. record { book = c.args.self.now.book; marks = m }) c.in_ok-set_watch-in-Some.ensures))
    (rw (c.program-in-Some.ensures, c.machine-in-Some.ensures.program) at c.push_watch.ensures))

pub returns-in-None : goal.returns-in-None
returns-in-None c =
    let found = rw (c.program.ensures, c.machine.ensures.program) at (sym c.cell_of.ensures ∙ c.in-None.is) in
    rw found (on_ok_weaker c.push_command_fault.result (λ said. (said, refl)) c.push_command_fault.ensures)
