-- What a machine of one thread replies to a command, and what the command leaves.
use Rattle.std.specs.Prelude.{◌≡◌, ◌<◌, ℕ, Bool, true, false, slice_get}
use Rattle.om_code.specs.declared.raw.Raw.{Raw}
use Rattle.om_state.specs.declared.step.Label.{Label}
use Rattle.om_undo_history.specs.declared.reply.StepReply.TheVariants as step_reply
use Rattle.om_undo_history.specs.Runs.{History, no_history, reply_to_step, after_step, reply_to_undo, after_undo}
use Rattle.om_undo_history.specs.Cones.{reply_to_roll, after_roll}
use Rattle.om_undo.specs.Machines.{MachineView, rules_for, state_in}
use Rattle.om_undo.specs.ReadyNames.{ready_names}
use Rattle.om_book_journal.specs.declared.command.Query.{Query}
use Rattle.om_book_journal.specs.declared.command.Query.TheVariants as query
use Rattle.om_book_journal.specs.declared.command.Command.{Command}
use Rattle.om_book_journal.specs.declared.command.Command.TheVariants as command
use Rattle.om_book_journal.specs.declared.reply.Reply.{Reply}
use Rattle.om_book_journal.specs.declared.reply.Reply.TheVariants as reply

-- the machine of a program, before any command
abbrev pub fresh : Raw → ℕ → MachineView
fresh program workers = record { program = program; workers = workers; history = no_history }

-- the command of a label's step
abbrev pub step_command : Label → Command
step_command l = command.Step l.worker l.choice

-- the worker that a command names, if it names one, is below so many
abbrev pub IsInRange : ℕ → Command → Type 0
IsInRange workers (command.Step worker choice) = worker < workers
IsInRange workers (command.Undo worker) = worker < workers
IsInRange workers (command.Roll serial) = Unit {0}
IsInRange workers (command.Look question) = Unit {0}

-- the command asks for a list: which tasks are ready, or which entries stand
abbrev pub asks_for_list : Command → Bool
asks_for_list (command.Step worker choice) = false
asks_for_list (command.Undo worker) = false
asks_for_list (command.Roll serial) = false
asks_for_list (command.Look (query.Value object)) = false
asks_for_list (command.Look query.Ready) = true
asks_for_list (command.Look query.FirstReady) = false
asks_for_list (command.Look query.Entries) = true

-- what is answered to a question
abbrev pub answer_to : MachineView → Query → Reply
answer_to m (query.Value object) = reply.Value (state_in m object)
answer_to m query.Ready = reply.Ready (ready_names m)
answer_to m query.FirstReady = reply.FirstReady (slice_get (ready_names m) 0)
answer_to m query.Entries = reply.Entries m.history.entries

-- what is replied to a command: by the definition of a run, and to a question its answer
abbrev pub reply_to : MachineView → Command → Reply
reply_to m (command.Step worker choice) =
    reply.Step (reply_to_step (rules_for m) m.history (record { worker = worker; choice = choice }))
reply_to m (command.Undo worker) = reply.Undo (reply_to_undo (rules_for m) m.history worker)
reply_to m (command.Roll serial) = reply.Roll (reply_to_roll (rules_for m) m.history serial)
reply_to m (command.Look question) = answer_to m question

abbrev pub IsReply : MachineView → Command → Reply → Type 0
IsReply m c x = x ≡ reply_to m c

-- the history that a command leaves
abbrev pub history_behind : MachineView → Command → History
history_behind m (command.Step worker choice) =
    after_step (rules_for m) m.history (record { worker = worker; choice = choice })
history_behind m (command.Undo worker) = after_undo (rules_for m) m.history worker
history_behind m (command.Roll serial) = after_roll (rules_for m) m.history serial
history_behind m (command.Look question) = m.history

-- what a command leaves: a question leaves all as it was
abbrev pub after : MachineView → Command → MachineView
after m c = record m { history = history_behind m c }

-- the reply is that of a step that was made
abbrev pub is_step_made : Reply → Bool
is_step_made (reply.Step (step_reply.Done serial line fault)) = true
is_step_made _ = false
