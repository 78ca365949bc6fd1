use Rattle.std.proofs.lemmas.Result.{on_ok_weaker}
use Rattle.om_shell_debugger.proofs.Bounded.{one_line}
use Rattle.om_shell_debugger.proofs.looks.push_one.Goals as goal

pub returns : goal.returns
returns c =
    on_ok_weaker c.push_history.result (λ said. one_line _ _ _ _ c.get.ensures said) c.push_history.ensures
