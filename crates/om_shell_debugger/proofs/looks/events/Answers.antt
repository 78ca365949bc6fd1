use Rattle.std.proofs.Common.{sym, ◌∙◌}
use Rattle.std.proofs.lemmas.Result.{on_ok_weaker}
use Rattle.om_shell_debugger.proofs.looks.events.Goals as goal

pub value_told-requires : goal.value_told-requires
value_told-requires c = (_, _, c.in_ok-call.ensures)

pub returns : goal.returns
returns c =
    let told = c.value_told.ensures _ _ c.in_ok-call.ensures in
    rw (sym c.is_full.ensures ∙ c.if-is_full.false)
    (on_ok_weaker c.push_events.result (λ said. (said, c.in_ok-call.ensures))
    (rw (c.records.ensures, told) at c.push_events.ensures))
