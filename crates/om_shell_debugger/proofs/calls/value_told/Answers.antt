use Rattle.std.proofs.Common.{sym, ◌∙◌}
use Rattle.om_book_journal.specs.declared.command.Command.TheVariants as call
use Rattle.om_book_journal.specs.declared.command.Query.TheVariants as query
use Rattle.om_shell_debugger.proofs.Bounded.{same_value}
use Rattle.om_shell_debugger.proofs.calls.value_told.Goals as goal

pub other_told-requires : goal.other_told-requires
other_told-requires c = (c.requires.0, (call.Look (query.Value c.requires.1)), c.requires.2, tt)

pub unreachable-requires : goal.unreachable-requires
unreachable-requires c = c.in_default.not-Value _
    (c.other_told.ensures c.requires.0 (call.Look (query.Value c.requires.1)) c.requires.2)

pub returns : goal.returns
returns c = λ b object is. same_value _ _ (sym c.in-Value.is ∙ c.other_told.ensures b (call.Look (query.Value object)) is)
