-- Matter of proofs, for crates with books: what a journal leaves is the run of its steps, undos and rolls.
use Rattle.std.specs.Prelude.{◌≡◌, List, [], ◌∷◌, ◌++◌, refl}
use Rattle.std.proofs.Common.{◌∙◌, ap}
use Rattle.om_undo_history.specs.Commands as told
use Rattle.om_undo_history.specs.Commands.{run}
use Rattle.om_undo.specs.Machines.{MachineView, rules_for}
use Rattle.om_book_journal.specs.Records.{JournalRecord}
use Rattle.om_book_journal.specs.declared.command.Command.{Command}
use Rattle.om_book_journal.specs.declared.command.Command.TheVariants as command
use Rattle.om_book_journal.specs.Runs.{after, history_behind}
use Rattle.om_book_journal.specs.Journals.{IsSound, left_by}
use Rattle.om_book_journal.specs.Histories.{told_by, told_in}

told_first : (m : MachineView) (c : Command) (cs : List told.Command)
    → run (rules_for m) (history_behind m c) cs ≡ run (rules_for m) m.history (told_by c ++ cs)
told_first m (command.Step worker choice) cs = refl
told_first m (command.Undo worker) cs = refl
told_first m (command.Roll serial) cs = refl
told_first m (command.Look question) cs = refl

left_by_run : (m : MachineView) (journal : List JournalRecord)
    → (left_by m journal).history ≡ run (rules_for m) m.history (told_in journal)
left_by_run m [] = refl
left_by_run m (r ∷ rs) = left_by_run (after m r.command) rs ∙ told_first m r.command (told_in rs)

pub sound_run : (machine start : MachineView) (journal : List JournalRecord)
    → IsSound machine start journal
    → machine.history ≡ run (rules_for start) start.history (told_in journal)
sound_run machine start journal h = ap (λ m. m.history) h.left ∙ left_by_run start journal
