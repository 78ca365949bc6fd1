use Rattle.std.specs.Prelude.{slice_get}
use Rattle.std.proofs.Common.{◌∙◌, ap}
use Rattle.om_undo.specs.ReadyNames.{ready_names}
use Rattle.om_book_journal.proofs.Answering.{all_behind_none}
use Rattle.om_book_journal.proofs.replies.first_ready.Goals as goal

pub returns : goal.returns
returns c =
    c.next_ready.ensures ∙ ap (λ names. slice_get names 0) (all_behind_none (ready_names c.args.machine.now))
