use Rattle.std.proofs.Common.{ap}
use Rattle.std.proofs.lemmas.Result.{on_ok_weaker}
use Rattle.om_shell_debugger.proofs.debugger.Debugger.set_break.Goals as goal

pub returns : goal.returns
returns c =
    on_ok_weaker c.push_break.result
    (λ said. (said, ap (λ m. record { book = c.args.self.now.book; marks = m }) c.in_ok-set_break.ensures))
    c.push_break.ensures
