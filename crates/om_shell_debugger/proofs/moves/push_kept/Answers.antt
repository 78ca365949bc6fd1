use Rattle.std.proofs.Common.{sym, ◌∙◌}
use Rattle.om_shell_debugger.proofs.Undone.{undone_of}
use Rattle.om_shell_debugger.proofs.moves.push_kept.Goals as goal

pub returns-in-Some : goal.returns-in-Some
returns-in-Some c =
    rw (undone_of c.args.reply.now c.in-Some.step (sym c.undone.ensures ∙ c.in-Some.is)) c.push_undone.ensures
