-- The calls of a debugger: it makes them through one seat, 0, of its book.
use Rattle.std.specs.Prelude.{◌≡◌, ℕ, List}
use Rattle.om_foot.specs.declared.object.Obj.{Obj}
use Rattle.om_state.specs.declared.step.Choice.{Choice}
use Rattle.om_state.specs.declared.step.Label.{Label}
use Rattle.om_state.specs.declared.step.Entry.{Entry}
use Rattle.om_state.specs.declared.value.Val.{Val}
use Rattle.om_undo_history.specs.declared.reply.RollReply.{RollReply}
use Rattle.om_undo_history.specs.declared.reply.StepReply.{StepReply}
use Rattle.om_undo_history.specs.declared.reply.UndoReply.{UndoReply}
use Rattle.om_undo_history.specs.Runs.{reply_to_undo}
use Rattle.om_book.specs.Books.{BookView, machine_of, with_call}
use Rattle.om_book_journal.specs.declared.command.Command.{Command}
use Rattle.om_book_journal.specs.declared.command.Command.TheVariants as call
use Rattle.om_book_journal.specs.declared.command.Query.TheVariants as query
use Rattle.om_book_journal.specs.declared.reply.Reply.{Reply}
use Rattle.om_book_journal.specs.Runs.{reply_to}
use Rattle.om_task.specs.Plans.{label_at}
use Rattle.om_undo.specs.Machines.{MachineView, roll_reply, rules_for, state_in, step_reply}
use Rattle.om_undo.specs.ReadyNames.{ready_names}

-- the book behind a call of the debugger, which it makes through seat 0
abbrev pub with_debugger_call : BookView → Command → BookView
with_debugger_call b c = with_call b 0 c

-- the book behind a step
abbrev pub with_step : BookView → Label → BookView
with_step b label = with_debugger_call b (call.Step label.worker label.choice)

-- what a machine replies to an undo
abbrev pub undo_reply_of : MachineView → ℕ → UndoReply
undo_reply_of m worker = reply_to_undo (rules_for m) m.history worker

-- what a worker's step by a choice is answered where a book stands
abbrev pub step_reply_at : BookView → ℕ → Choice → StepReply
step_reply_at b worker choice = step_reply (machine_of b) (label_at worker choice)

-- the book behind a look at what an object holds
abbrev pub with_value_look : BookView → Obj → BookView
with_value_look b object = with_debugger_call b (call.Look (query.Value object))

-- whatever call of the debugger was the last one in a book, this is the reply to it
abbrev pub IsReplyTold : Reply → BookView → Type 0
IsReplyTold reply now = (b : BookView) (c : Command) → now ≡ with_debugger_call b c → reply ≡ reply_to (machine_of b) c

-- where the debugger's last call was an undo, this is the reply to it
abbrev pub IsUndoTold : UndoReply → BookView → Type 0
IsUndoTold reply now = (b : BookView) (worker : ℕ) → now ≡ with_debugger_call b (call.Undo worker)
    → reply ≡ undo_reply_of (machine_of b) worker

-- where the debugger's last call was a roll, this is the reply to it
abbrev pub IsRollTold : RollReply → BookView → Type 0
IsRollTold reply now = (b : BookView) (serial : ℕ) → now ≡ with_debugger_call b (call.Roll serial)
    → reply ≡ roll_reply (machine_of b) serial

-- where the debugger's last call was a look at an object, this is what the object holds
abbrev pub IsValueTold : Val → BookView → Type 0
IsValueTold value now = (b : BookView) (object : Obj) → now ≡ with_value_look b object
    → value ≡ state_in (machine_of b) object

-- where the debugger's last call was a look at the entries, these are the entries that stand
abbrev pub AreEntriesTold : List Entry → BookView → Type 0
AreEntriesTold entries now = (b : BookView) → now ≡ with_debugger_call b (call.Look query.Entries)
    → entries ≡ (machine_of b).history.entries

-- where the debugger's last call was a look at the tasks that are ready, these are their names
abbrev pub AreNamesTold : List (List ℕ) → BookView → Type 0
AreNamesTold names now = (b : BookView) → now ≡ with_debugger_call b (call.Look query.Ready)
    → names ≡ ready_names (machine_of b)

-- a command that is neither a step nor an undo
abbrev pub IsOther : Command → Type 0
IsOther (call.Step worker choice) = ⊥
IsOther (call.Undo worker) = ⊥
IsOther (call.Roll serial) = Unit {0}
IsOther (call.Look question) = Unit {0}
