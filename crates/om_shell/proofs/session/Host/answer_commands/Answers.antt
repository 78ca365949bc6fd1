use Rattle.std.proofs.Common.{rules, ◌≡◌, ◌≢◌, Some}
use Rattle.std.proofs.lemmas.Result.{err_from_is_err_and}
use Rattle.om_shell_debugger.specs.Views.{opened}
use Rattle.om_shell.specs.declared.ended.ShellFault.TheVariants.{Memory, Read}
use Rattle.om_shell.proofs.ServeLaws.{Breaks_unread}
use Rattle.om_shell.proofs.session.Host.answer_commands.Goals as goal

pub returns-in_err-session-clause-broken_off : goal.returns-in_err-session-clause-broken_off
returns-in_err-session-clause-broken_off g c =
    let p = err_from_is_err_and c.from_residual.result c.from_residual.ensures.1 in
    let other : Memory ≢ Read = search rules in
    rw (p.1, p.2) (Breaks_unread _ _ _ other)

pub returns-in-Err-clause-broken_off : goal.returns-in-Err-clause-broken_off
returns-in-Err-clause-broken_off g c =
    let new : c.in_ok-session.session.debugger ≡ opened c.args.program c.args.self.now.workers = search rules in
    rw new at c.in-Err.ensures.broken_off

pub returns-in-Ok-clause-done : goal.returns-in-Ok-clause-done
returns-in-Ok-clause-done g c =
    let new : c.in_ok-session.session.debugger ≡ opened c.args.program c.args.self.now.workers = search rules in
    let done = rw new at c.in-Ok.ensures.done in
    let left : c.accepted.result.book ≡ Some c.converse.new.session.debugger.book = search rules in
    (done.0, record { view = Some c.converse.new.session.debugger; done = done.1; book_is = left })
