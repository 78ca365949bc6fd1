use Rattle.std.proofs.Common.{sym, ◌∙◌}
use Rattle.std.proofs.lemmas.Result.{on_ok_weaker}
use Rattle.om_shell_debugger.proofs.moves.roll.Goals as goal

pub roll_told-requires : goal.roll_told-requires
roll_told-requires c = (_, _, c.in_ok-call.ensures)

pub returns : goal.returns
returns c =
    let told = c.roll_told.ensures _ _ c.in_ok-call.ensures in
    rw (sym c.is_full.ensures ∙ c.if-is_full.false)
    (on_ok_weaker c.push_roll.result (λ said. (said, c.in_ok-call.ensures))
    (rw (told) at c.push_roll.ensures))
