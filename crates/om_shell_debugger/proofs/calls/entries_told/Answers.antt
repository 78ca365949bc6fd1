use Rattle.std.proofs.Common.{sym, ◌∙◌}
use Rattle.om_book_journal.specs.declared.command.Command.TheVariants as call
use Rattle.om_book_journal.specs.declared.command.Query.TheVariants as query
use Rattle.om_shell_debugger.proofs.Bounded.{same_entries}
use Rattle.om_shell_debugger.proofs.calls.entries_told.Goals as goal

pub other_told-requires : goal.other_told-requires
other_told-requires c = (c.requires.0, (call.Look query.Entries), c.requires.1, tt)

pub unreachable-requires : goal.unreachable-requires
unreachable-requires c = c.in_default.not-Entries _
    (c.other_told.ensures c.requires.0 (call.Look query.Entries) c.requires.1)

pub returns : goal.returns
returns c = λ b is. c.get.ensures
    ∙ same_entries _ _ (sym c.in-Entries.is ∙ c.other_told.ensures b (call.Look query.Entries) is)
