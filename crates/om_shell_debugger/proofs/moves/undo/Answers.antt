use Rattle.std.proofs.Common.{sym, ◌∙◌}
use Rattle.std.proofs.lemmas.Result.{on_ok_weaker}
use Rattle.om_shell_debugger.proofs.moves.undo.Goals as goal

pub undo_told-requires : goal.undo_told-requires
undo_told-requires c = (_, _, c.in_ok-undo.ensures)

pub returns : goal.returns
returns c =
    let told = c.undo_told.ensures _ _ c.in_ok-undo.ensures in
    rw (sym c.is_full.ensures ∙ c.if-is_full.false)
    (on_ok_weaker c.push_kept.result (λ said. (said, c.in_ok-undo.ensures))
    (rw (c.program.ensures, c.machine.ensures.program, c.in_ok-undo.ensures, told) at c.push_kept.ensures))
