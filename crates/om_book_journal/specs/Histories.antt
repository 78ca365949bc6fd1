-- The steps, undos and rolls of a journal, as the definition of a run has them.
use Rattle.std.specs.Prelude.{List, [], ◌∷◌, ◌++◌}
use Rattle.om_undo_history.specs.Commands as told
use Rattle.om_undo_history.specs.Commands.{ToStep, ToUndo, ToRoll}
use Rattle.om_book_journal.specs.Records.{JournalRecord}
use Rattle.om_book_journal.specs.declared.command.Command.{Command}
use Rattle.om_book_journal.specs.declared.command.Command.TheVariants as command

-- what a command tells the machine to do: nothing, where it is a question
abbrev pub told_by : Command → List told.Command
told_by (command.Step worker choice) = ToStep (record { worker = worker; choice = choice }) ∷ []
told_by (command.Undo worker) = ToUndo worker ∷ []
told_by (command.Roll serial) = ToRoll serial ∷ []
told_by (command.Look question) = []

-- all steps, undos and rolls of a journal, in their order; those that were refused are among them
abbrev pub told_in : List JournalRecord → List told.Command
told_in [] = []
told_in (r ∷ rs) = told_by r.command ++ told_in rs
