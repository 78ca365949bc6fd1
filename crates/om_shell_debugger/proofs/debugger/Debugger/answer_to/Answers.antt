use Rattle.std.proofs.Common.{append-nil, refl, sym}
use Rattle.std.proofs.lemmas.Result.{on_ok_weaker}
use Rattle.om_shell_debugger.proofs.debugger.Debugger.answer_to.Goals as goal

pub returns-in-Command : goal.returns-in-Command
returns-in-Command c = rw c.in-Command.is c.obey.ensures

pub returns-in-Fault : goal.returns-in-Fault
returns-in-Fault c =
    rw c.in-Fault.is
    (on_ok_weaker c.push_command_fault.result (λ said. (said, refl)) c.push_command_fault.ensures)

pub returns-in-Nothing : goal.returns-in-Nothing
returns-in-Nothing c = rw c.in-Nothing.is (sym (append-nil c.args.text.now.items), refl)
