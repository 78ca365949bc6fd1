-- Entries as replies keep them.
use Rattle.om_state.specs.declared.step.Entry.{Entry}
use Rattle.om_state.specs.declared.step.Choice.TheVariants as choice
use Rattle.om_book_journal.specs.declared.entry.EntryForms.{EntryForms}
use Rattle.om_book_journal.specs.declared.entry.EntryForms.TheVariants as forms

-- the entry of these forms
abbrev pub entry_in : EntryForms → Entry
entry_in (forms.Next worker line serial) =
    record { serial = serial; worker = worker; choice = choice.Next; line = line }
entry_in (forms.Start worker line serial task) =
    record { serial = serial; worker = worker; choice = choice.Start task.value; line = line }
