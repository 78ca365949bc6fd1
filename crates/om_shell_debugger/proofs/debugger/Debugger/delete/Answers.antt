use Rattle.std.proofs.Common.{ap}
use Rattle.std.proofs.lemmas.Result.{on_ok_weaker}
use Rattle.om_shell_debugger.proofs.debugger.Debugger.delete.Goals as goal

pub returns : goal.returns
returns c =
    on_ok_weaker c.push_deleted.result
    (λ said. (said, ap (λ m. record { book = c.args.self.now.book; marks = m }) c.in_ok-was_set.ensures.deleted))
    (rw c.in_ok-was_set.ensures.was_set at c.push_deleted.ensures)
