-- What contracts see of a book.
use Rattle.std.specs.Prelude.{◌≡◌, ◌+◌, ◌-◌, ℕ, Bool, nat_le, List, [], ◌∷◌, ◌++◌, length, take, slice_get}
use Rattle.std.specs.Prelude.{Option, Vec, option_map}
use Rattle.std.specs.declared.alloc.Global.{Global}
use Rattle.om_undo_history.specs.Runs.{History}
use Rattle.om_undo_history.specs.Commands.{run}
use Rattle.om_state.specs.declared.step.Label.{Label}
use Rattle.om_undo.specs.Machines.{MachineView, rules_for}
use Rattle.om_book_journal.specs.Runs.{fresh, reply_to, step_command}
use Rattle.om_book_journal.specs.Journals.{left_by}
use Rattle.om_book_journal.specs.Histories.{told_in}
use Rattle.om_book_journal.specs.declared.command.Command.{Command}
use Rattle.om_book_journal.specs.declared.command.Command.TheVariants as command
use Rattle.om_book_journal.specs.declared.reply.Reply.{Reply}
use Rattle.om_book_journal.specs.Records.{JournalRecord}

-- the machine at the opening, and the calls since
pub record BookView : Type 0 where
  pub start : MachineView
  pub journal : List JournalRecord

-- the machine that the journal leaves
abbrev pub machine_of : BookView → MachineView
machine_of b = left_by b.start b.journal

-- the history that the journal leaves: the run of its steps, undos and rolls, the refused ones among them
abbrev pub history_left : BookView → History
history_left b = run (rules_for b.start) b.start.history (told_in b.journal)

-- how many calls were recorded
abbrev pub records_of : BookView → ℕ
records_of b = length b.journal

-- there is no room for one more
abbrev pub is_full : BookView → Bool
is_full b = nat_le 200000 (records_of b)

-- the book with one more record
abbrev pub with_record : BookView → ℕ → Command → Reply → BookView
with_record b seat command reply =
    record b { journal = b.journal ++ record { seat = seat; command = command; reply = reply } ∷ [] }

-- the book with the record of a seat's call, which its machine answers
abbrev pub with_call : BookView → ℕ → Command → BookView
with_call b seat command = with_record b seat command (reply_to (machine_of b) command)

-- a journal has one more record
abbrev pub AddsRecord : ℕ → Command → Reply → Vec JournalRecord Global → Vec JournalRecord Global → Type 0
AddsRecord seat command reply old new =
    new.items ≡ old.items ++ record { seat = seat; command = command; reply = reply } ∷ []

-- a journal has one more record: that of a seat's call, with the reply of this machine
abbrev pub AddsCall : MachineView → ℕ → Command → Vec JournalRecord Global → Vec JournalRecord Global → Type 0
AddsCall machine seat command old new = AddsRecord seat command (reply_to machine command) old new

-- a journal has one more record: that of a seat's step, with the reply of this machine
abbrev pub AddsStep : MachineView → ℕ → Label → Vec JournalRecord Global → Vec JournalRecord Global → Type 0
AddsStep machine seat label old new = AddsCall machine seat (step_command label) old new

-- a journal has one more record: that of a seat's undo of a worker's step, with the reply of this machine
abbrev pub AddsUndo : MachineView → ℕ → ℕ → Vec JournalRecord Global → Vec JournalRecord Global → Type 0
AddsUndo machine seat worker old new = AddsCall machine seat (command.Undo worker) old new

-- what the last call was answered, where there is one
abbrev pub last_reply : BookView → Option Reply
last_reply b = option_map (λ (r : JournalRecord). r.reply) (slice_get b.journal (records_of b - 1))

-- so many records were added to a book, and nothing else of it changed
abbrev pub IsGrown : BookView → BookView → ℕ → Type 0
IsGrown old new n = (new.start ≡ old.start)
    × (length new.journal ≡ length old.journal + n) × (take (length old.journal) new.journal ≡ old.journal)

-- a book without records, over a machine of no program
abbrev pub no_book : BookView
no_book = record {
  start = fresh (record { globals = []; bodies = []; main = 0; texts = []; picks = []; locks = [] }) 0;
  journal = [];
}
