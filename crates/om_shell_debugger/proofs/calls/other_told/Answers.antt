use Rattle.std.proofs.Common.{ap, sym, ◌∙◌}
use Rattle.om_book.specs.Books.{machine_of}
use Rattle.om_book_journal.specs.Records.{reply_in}
use Rattle.om_shell_debugger.proofs.Told.{never_step, never_undo}
use Rattle.om_shell_debugger.proofs.calls.other_told.Goals as goal

pub unreachable-requires : goal.unreachable-requires
unreachable-requires c = never_step (machine_of c.requires.0) c.requires.1 _ c.requires.3
    (ap reply_in (sym c.in-Step.is) ∙ c.told.ensures c.requires.0 c.requires.1 c.requires.2)

pub unreachable-requires-in-Undo : goal.unreachable-requires-in-Undo
unreachable-requires-in-Undo c = never_undo (machine_of c.requires.0) c.requires.1 _ c.requires.3
    (ap reply_in (sym c.in-Undo.is) ∙ c.told.ensures c.requires.0 c.requires.1 c.requires.2)

pub returns : goal.returns
returns c = λ b asked is. ap reply_in (sym c.in-Other.is) ∙ c.told.ensures b asked is
