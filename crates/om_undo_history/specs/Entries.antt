-- For proofs: entries as records keep them.
use Rattle.std.specs.Prelude.{ℕ, List, Option}
use Rattle.std.specs.Global.{Box}
use Rattle.om_state.specs.declared.step.Entry.{Entry}
use Rattle.om_state.specs.declared.step.Choice.TheVariants.{Next, Start}
use Rattle.om_undo_history.specs.declared.kept.EntryForms.{EntryForms}
use Rattle.om_undo_history.specs.declared.kept.EntryForms.TheVariants as forms
use Rattle.om_undo_history.specs.Choices.{choice_of}

-- the entry of a form
abbrev pub entry_in : EntryForms → Entry
entry_in (forms.Next worker line serial) = record { serial = serial; worker = worker; choice = Next; line = line }
entry_in (forms.Start worker line serial task) =
    record { serial = serial; worker = worker; choice = Start task.value; line = line }

-- the entry of a worker's step at a line, which starts the task of this name, if there is one
abbrev pub entry_by : ℕ → ℕ → ℕ → Option (Box (List ℕ)) → Entry
entry_by worker line serial start =
    record { serial = serial; worker = worker; choice = choice_of start; line = line }
