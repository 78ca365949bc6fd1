use Rattle.std.proofs.Common.{sym, ◌∙◌}
use Rattle.om_book_journal.specs.declared.command.Command.TheVariants as call
use Rattle.om_shell_debugger.proofs.Bounded.{same_roll}
use Rattle.om_shell_debugger.proofs.calls.roll_told.Goals as goal

pub other_told-requires : goal.other_told-requires
other_told-requires c = (c.requires.0, (call.Roll c.requires.1), c.requires.2, tt)

pub unreachable-requires : goal.unreachable-requires
unreachable-requires c = c.in_default.not-Roll _
    (c.other_told.ensures c.requires.0 (call.Roll c.requires.1) c.requires.2)

pub returns : goal.returns
returns c = λ b serial is. same_roll _ _ (sym c.in-Roll.is ∙ c.other_told.ensures b (call.Roll serial) is)
