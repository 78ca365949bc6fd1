-- Free runs: all workers step at once, in whatever order they come to the lock.
use Rattle.std.specs.Prelude.{◌≡◌, ℕ, Bool, true, false, ◌&&◌, cond, List, [], ◌∷◌, Vec}
use Rattle.std.specs.List.{AllByRecursion}
use Rattle.std.specs.declared.alloc.Global.{Global}
use Rattle.om_drive.specs.FreeRuns.{with_records}
use Rattle.om_drive.specs.OwnCalls.{is_own_call}
use Rattle.om_book.specs.Books.{BookView, is_full, machine_of}
use Rattle.om_book_journal.specs.Journals.{done_in}
use Rattle.om_book_journal.specs.Runs.{after, reply_to}
use Rattle.om_book_journal.specs.Records.{JournalRecord}
use Rattle.om_book_journal.specs.declared.command.Command.{Command}
use Rattle.om_shell_commands.specs.Steps.{full_text}
use Rattle.om_shell_commands.specs.Stops.{freed_text}
use Rattle.om_undo.specs.Machines.{MachineView}
use Rattle.om_shell_debugger.specs.Said.{Said}
use Rattle.om_shell_debugger.specs.Says.{Says}

-- a command, and the seat through which it came
pub record SeatCall : Type 0 where
  pub seat : ℕ
  pub command : Command

-- each is an own call of the worker whose number its seat has: a step of this worker, or the question which task is the
-- first that is ready
abbrev pub AreOwn : List SeatCall → Type 0
AreOwn calls = AllByRecursion (λ (c : SeatCall). is_own_call c.seat c.command ≡ true) calls

-- what a free run did: the calls of its workers, in the order in which they were recorded, and whether a worker found
-- no room for one more
pub record FreeRun : Type 0 where
  pub calls : List SeatCall
  pub full : Bool
  pub own : AreOwn calls

abbrev pub no_run : FreeRun
no_run = record { calls = []; full = false; own = tt }

-- the records of calls, one after the other
abbrev pub records_by : MachineView → List SeatCall → List JournalRecord
records_by m [] = []
records_by m (c ∷ cs) =
    record { seat = c.seat; command = c.command; reply = reply_to m c.command } ∷ records_by (after m c.command) cs

-- the records of a free run over a book
abbrev pub made_by : FreeRun → BookView → List JournalRecord
made_by run b = records_by (machine_of b) run.calls

-- the book behind it
abbrev pub freed_book : FreeRun → BookView → BookView
freed_book run b = with_records b (made_by run b)

-- `free K`: it says `full` only where there is no room in the book behind it
abbrev pub free_said : FreeRun → BookView → Said
free_said run b = record {
  text = cond (run.full && is_full (freed_book run b)) full_text (freed_text (done_in (made_by run b)));
  book = freed_book run b;
}

-- what some free run over a book says is written behind a text, and the book that this run leaves is the new one
abbrev pub SaysFreed : BookView → (old new : Vec ℕ Global) → BookView → Type 0
SaysFreed b old new book = (run : FreeRun) × Says (free_said run b) old new book
