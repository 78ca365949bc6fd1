use Rattle.std.proofs.Common.{sym, ◌∙◌}
use Rattle.std.proofs.lemmas.Result.{on_ok_weaker}
use Rattle.om_shell_debugger.proofs.looks.print.Goals as goal

pub value_told-requires : goal.value_told-requires
value_told-requires c = (_, _, c.in_ok-call.ensures)

pub returns : goal.returns
returns c =
    let told = c.value_told.ensures _ _ c.in_ok-call.ensures in
    rw (sym c.is_full.ensures ∙ c.if-is_full.false)
    (on_ok_weaker c.push_print.result (λ said. (said, rw c.object.ensures at c.in_ok-call.ensures))
    (rw (c.program.ensures, c.machine.ensures.program, c.in_ok-call.ensures, told, c.object.ensures) at c.push_print.ensures))
