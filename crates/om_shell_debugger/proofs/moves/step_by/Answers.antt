use Rattle.std.proofs.Common.{sym, ◌∙◌}
use Rattle.std.proofs.lemmas.Result.{on_ok_weaker}
use Rattle.om_shell_debugger.proofs.moves.step_by.Goals as goal

pub returns : goal.returns
returns c =
    rw (sym c.is_full.ensures ∙ c.if-is_full.false)
    (on_ok_weaker c.push_step.result (λ said. (said, c.in_ok-reply.ensures.after))
    (rw c.in_ok-reply.ensures.reply at c.push_step.ensures))
