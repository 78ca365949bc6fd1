-- The texts of replies of many lines.
use Rattle.std.specs.Prelude.{ℕ, List, [], ◌∷◌, ◌++◌, codes, decimal, length}
use Rattle.om_foot.specs.Names.{name_text}
use Rattle.om_state.specs.declared.step.Entry.{Entry}
use Rattle.om_events.specs.declared.event.Record.{Record}
use Rattle.om_events.specs.Records.{record_text}
use Rattle.om_undo_history.specs.declared.reply.Taken.{Taken}
use Rattle.om_undo_history.specs.declared.reply.RollReply.{RollReply}
use Rattle.om_undo_history.specs.declared.reply.RollReply.TheVariants.{Rolled, NoEntry}
use Rattle.om_shell_commands.specs.Steps.{entry_text, undone_text}

-- the texts of all, one behind the other
abbrev pub joined : {A : Type 0} → (A → List ℕ) → List A → List ℕ
joined text [] = []
joined text (item ∷ items) = text item ++ joined text items

abbrev pub entry_line : Entry → List ℕ
entry_line e = entry_text e.serial e.worker e.line ++ codes "\n"

-- the steps that stand, in their order
abbrev pub history_text : List Entry → List ℕ
history_text [] = codes "no steps\n"
history_text (e ∷ entries) = joined entry_line (e ∷ entries)

abbrev pub event_line : Record → List ℕ
event_line event = record_text event ++ codes "\n"

abbrev pub events_text : List Record → List ℕ
events_text events = joined event_line events

-- how many bytes were printed, and these
abbrev pub output_text : List ℕ → List ℕ
output_text bytes = codes "output " ++ decimal (length bytes) ++ codes " bytes\n" ++ bytes ++ codes "\n"

-- a task that is ready, and the line of its directive
abbrev pub task_text : List ℕ → ℕ → List ℕ
task_text name line = codes "ready " ++ name_text name ++ codes " line " ++ decimal line ++ codes "\n"

abbrev pub no_tasks_text : List ℕ
no_tasks_text = codes "no tasks\n"

abbrev pub taken_line : Taken → List ℕ
taken_line taken = undone_text taken.serial taken.worker taken.line

-- what a roll took out, the latest first
abbrev pub roll_text : ℕ → RollReply → List ℕ
roll_text serial (Rolled members) = joined taken_line members
roll_text serial NoEntry = codes "no step #" ++ decimal serial ++ codes "\n"
