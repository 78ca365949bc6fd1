use Rattle.std.proofs.Common.{sym, ◌∙◌}
use Rattle.om_book_journal.specs.declared.command.Command.TheVariants as call
use Rattle.om_book_journal.specs.declared.command.Query.TheVariants as query
use Rattle.om_shell_debugger.proofs.Bounded.{same_names}
use Rattle.om_shell_debugger.proofs.calls.names_told.Goals as goal

pub other_told-requires : goal.other_told-requires
other_told-requires c = (c.requires.0, (call.Look query.Ready), c.requires.1, tt)

pub unreachable-requires : goal.unreachable-requires
unreachable-requires c = c.in_default.not-Ready _
    (c.other_told.ensures c.requires.0 (call.Look query.Ready) c.requires.1)

pub returns : goal.returns
returns c = λ b is. c.get.ensures
    ∙ same_names _ _ (sym c.in-Ready.is ∙ c.other_told.ensures b (call.Look query.Ready) is)
