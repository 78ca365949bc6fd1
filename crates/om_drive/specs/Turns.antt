-- In which order a worker that runs freely calls: which call it makes next, by the last one and its reply.
use Rattle.std.specs.Prelude.{◌≡◌, ◌++◌, ℕ, suc, Bool, true, false, cond, length, List, [], ◌∷◌, Option, None, Some}
use Rattle.om_state.specs.declared.step.Blocked.TheVariants as blocked
use Rattle.om_state.specs.declared.step.Choice.TheVariants as choice
use Rattle.om_undo_history.specs.declared.reply.StepReply.TheVariants as step_reply
use Rattle.om_book_journal.specs.declared.command.Command.{Command}
use Rattle.om_book_journal.specs.declared.command.Command.TheVariants as command
use Rattle.om_book_journal.specs.declared.command.Query.TheVariants as query
use Rattle.om_book_journal.specs.declared.reply.Reply.{Reply}
use Rattle.om_book_journal.specs.declared.reply.Reply.TheVariants as reply
use Rattle.om_book.specs.Books.{BookView}
use Rattle.om_book.specs.Standing.{calls_of}
use Rattle.om_book.specs.declared.receipt.Receipt.{Receipt}
use Rattle.om_drive.specs.FreeRuns.{gained}

-- the step waits at a barrier (B1), for the task's children (B3) or for its task group (B8)
abbrev pub waits : Reply → Bool
waits (reply.Step (step_reply.Blocked blocked.Barrier)) = true
waits (reply.Step (step_reply.Blocked blocked.Children)) = true
waits (reply.Step (step_reply.Blocked blocked.Group)) = true
waits _ = false

-- the first task that is ready, as the reply says
abbrev pub first_ready : Reply → Option (List ℕ)
first_ready (reply.FirstReady first) = first
first_ready _ = None

abbrev pub next_step : ℕ → Command
next_step worker = command.Step worker choice.Next

-- which task is the first that is ready
abbrev pub ready_question : Command
ready_question = command.Look query.FirstReady

-- the start of this task; the worker's next step where there is none
abbrev pub start_of : ℕ → Option (List ℕ) → Command
start_of worker None = next_step worker
start_of worker (Some task) = command.Step worker (choice.Start task)

-- where the next step waits, the question which task is the first that is ready; then the start of this task; and the
-- next step after everything else
abbrev pub call_after : ℕ → Command → Reply → Command
call_after worker (command.Step other choice.Next) x = cond (waits x) ready_question (next_step worker)
call_after worker (command.Look query.FirstReady) x = start_of worker (first_ready x)
call_after worker _ x = next_step worker

-- the first call is this one, and each later one is that after the call before it
abbrev pub AreInTurn : ℕ → Command → List Receipt → Type 0
AreInTurn worker next [] = Unit {0}
AreInTurn worker next (r ∷ rs) = (r.command ≡ next) × AreInTurn worker (call_after worker r.command r.reply) rs

-- the call that comes after all of these, of which the first one is this one
abbrev pub call_after_all : ℕ → Command → List Receipt → Command
call_after_all worker next [] = next
call_after_all worker next (r ∷ rs) = call_after_all worker (call_after worker r.command r.reply) rs

-- the calls that were made since are in turn, of which the first one is this one
pub record GoesInTurn (worker : ℕ) (next : Command) (old new : List Receipt) : Type 0 where
  pub calls : List Receipt
  pub more : new ≡ old ++ calls
  pub in_turn : AreInTurn worker next calls

-- and after them comes the worker's next step
pub record MakesRound (worker : ℕ) (next : Command) (old new : List Receipt) : Type 0 where
  pub calls : List Receipt
  pub more : new ≡ old ++ calls
  pub in_turn : AreInTurn worker next calls
  pub over : call_after_all worker next calls ≡ next_step worker

-- the calls that a free run made are in turn, of which the first one is the worker's next step
abbrev pub RunsInTurn : ℕ → List Receipt → List Receipt → Type 0
RunsInTurn worker old new = GoesInTurn worker (next_step worker) old new

-- so it is of each of these lists, of which the first one is of this worker, the second one of the next, and so on
abbrev pub EachRunsInTurn : ℕ → List (List Receipt) → List (List Receipt) → Type 0
EachRunsInTurn worker [] [] = Unit {0}
EachRunsInTurn worker [] (new ∷ news) = ⊥
EachRunsInTurn worker (old ∷ olds) [] = ⊥
EachRunsInTurn worker (old ∷ olds) (new ∷ news) = RunsInTurn worker old new × EachRunsInTurn (suc worker) olds news

-- so it is of what each worker called by the records that a book has gained
abbrev pub GainsInTurn : BookView → BookView → Type 0
GainsInTurn old new = (worker : ℕ) → AreInTurn worker (next_step worker)
    (calls_of worker (length old.journal) (gained old new))
