use Rattle.std.proofs.Common.{ap, sym, ◌∙◌}
use Rattle.om_book.specs.Books.{machine_of}
use Rattle.om_book_journal.specs.Records.{reply_in}
use Rattle.om_book_journal.specs.declared.command.Command.TheVariants as call
use Rattle.om_shell_debugger.proofs.Bounded.{same_undo}
use Rattle.om_shell_debugger.proofs.Told.{undone_by_no_step}
use Rattle.om_shell_debugger.proofs.calls.undo_told.Goals as goal

pub unreachable-requires : goal.unreachable-requires
unreachable-requires c = undone_by_no_step (machine_of c.requires.0) c.requires.1 _
    (ap reply_in (sym c.in-Step.is) ∙ c.told.ensures c.requires.0 (call.Undo c.requires.1) c.requires.2)

pub unreachable-requires-in_default : goal.unreachable-requires-in_default
unreachable-requires-in_default c = c.in_default.not-Undo _
    (ap reply_in (sym c.in-Other.is) ∙ c.told.ensures c.requires.0 (call.Undo c.requires.1) c.requires.2)

pub returns-in-Undo : goal.returns-in-Undo
returns-in-Undo c = λ b worker is. same_undo _ _
    (ap reply_in (sym c.in-Undo.is) ∙ c.told.ensures b (call.Undo worker) is)

pub returns : goal.returns
returns c = λ b worker is. same_undo _ _
    (sym c.in-Undo-reply.is ∙ ap reply_in (sym c.in-Other.is) ∙ c.told.ensures b (call.Undo worker) is)
