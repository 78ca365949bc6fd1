use Rattle.std.proofs.Common.{sym, ◌∙◌}
use Rattle.std.proofs.lemmas.Result.{on_ok_weaker}
use Rattle.om_shell_debugger.proofs.looks.history.Goals as goal

pub entries_told-requires : goal.entries_told-requires
entries_told-requires c = (_, c.in_ok-call.ensures)

pub returns : goal.returns
returns c =
    let told = c.entries_told.ensures _ c.in_ok-call.ensures in
    rw (sym c.is_full.ensures ∙ c.if-is_full.false)
    (on_ok_weaker c.push_entries.result (λ said. (said, c.in_ok-call.ensures))
    (rw (c.as_slice.ensures, told) at c.push_entries.ensures))
