use Rattle.std.proofs.Common.{sym, ◌∙◌}
use Rattle.std.proofs.lemmas.Result.{on_ok_weaker}
use Rattle.om_book_journal.specs.declared.command.Query.TheVariants as query
use Rattle.om_shell_debugger.proofs.Bounded.{looked_same}
use Rattle.om_shell_debugger.proofs.looks.tasks.Goals as goal

pub names_told-requires : goal.names_told-requires
names_told-requires c = (_, c.in_ok-call.ensures)

pub returns : goal.returns
returns c =
    let told = c.names_told.ensures _ c.in_ok-call.ensures in
    rw (sym c.is_full.ensures ∙ c.if-is_full.false)
    (on_ok_weaker c.push_tasks.result (λ said. (said, c.in_ok-call.ensures)) (rw (
      c.machine.ensures.left,
      c.in_ok-call.ensures,
      looked_same c.args.book.now query.Ready,
      c.as_slice.ensures,
      told,
    ) at c.push_tasks.ensures))
