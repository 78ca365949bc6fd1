-- The commands of one worker's steps and undos, and rolls.
use Rattle.std.specs.Prelude.{ℕ, zero, suc, Bool, true, false, cond, ◌&&◌, nat_eq, List}
use Rattle.om_state.specs.declared.step.Choice.{Choice}
use Rattle.om_state.specs.declared.step.Choice.TheVariants.{Next, Start}
use Rattle.om_undo_history.specs.declared.reply.StepReply.{StepReply}
use Rattle.om_undo_history.specs.declared.reply.UndoReply.{UndoReply}
use Rattle.om_undo_history.specs.declared.reply.UndoReply.TheVariants as undo_reply
use Rattle.om_book.specs.Books.{BookView, machine_of}
use Rattle.om_book_journal.specs.Runs.{is_step_made}
use Rattle.om_book_journal.specs.declared.command.Command.TheVariants as call
use Rattle.om_book_journal.specs.declared.reply.Reply.TheVariants as reply
use Rattle.om_shell_commands.specs.Steps.{step_text, undo_text}
use Rattle.om_shell_commands.specs.Lists.{roll_text}
use Rattle.om_undo.specs.Machines.{MachineView, roll_reply, step_reply}
use Rattle.om_shell_debugger.specs.declared.moves.Stay.{Stay}
use Rattle.om_task.specs.Plans.{label_at}
use Rattle.om_shell_debugger.specs.Calls.{undo_reply_of, with_debugger_call, with_step}
use Rattle.om_shell_debugger.specs.Looks.{line_at}
use Rattle.om_shell_debugger.specs.Said.{Said, unless_full}

-- a step was taken back
abbrev pub is_undone : UndoReply → Bool
is_undone (undo_reply.Undone serial line) = true
is_undone _ = false

-- `step W`, or `start W NAME`
abbrev pub step_said : ℕ → Choice → BookView → Said
step_said worker choice b = unless_full b (record {
  text = step_text worker (step_reply (machine_of b) (label_at worker choice));
  book = with_step b (label_at worker choice);
})

-- `start W NAME`
abbrev pub start_said : ℕ → List ℕ → BookView → Said
start_said worker task b = step_said worker (Start task) b

-- `undo W`
abbrev pub undo_said : ℕ → BookView → Said
undo_said worker b = unless_full b (record {
  text = undo_text b.start.program worker (undo_reply_of (machine_of b) worker);
  book = with_debugger_call b (call.Undo worker);
})

-- a worker's step is done and leaves it at a line
abbrev pub steps_within : ℕ → ℕ → BookView → Bool
steps_within line worker b = is_step_made (reply.Step (step_reply (machine_of b) (label_at worker Next)))
    && nat_eq (line_at (machine_of (with_step b (label_at worker Next))) worker) line

-- a worker still is at the line that it is to leave
abbrev pub stays : MachineView → Stay → Bool
stays m stay = nat_eq (line_at m stay.worker) stay.line

-- this is the reply to a step that was done, and it left the worker at its line
abbrev pub is_step_within : StepReply → MachineView → Stay → Bool
is_step_within r m stay = is_step_made (reply.Step r) && stays m stay

-- this is the reply to an undo that took a step out, and the worker is at its line behind it
abbrev pub is_undo_within : UndoReply → MachineView → Stay → Bool
is_undo_within r m stay = is_undone r && stays m stay

-- a further step may follow
abbrev pub goes_on : ℕ → Bool → Bool
goes_on zero within = false
goes_on (suc further) within = within

-- steps of a worker, while each is done and leaves it at the line, and one more; so many before that one at most
unfoldable pub next_within : ℕ → ℕ → ℕ → BookView → Said
next_within zero line worker b = step_said worker Next b
next_within (suc further) line worker b =
    unless_full b (cond (steps_within line worker b)
    (next_within further line worker (with_step b (label_at worker Next)))
    (record {
      text = step_text worker (step_reply (machine_of b) (label_at worker Next));
      book = with_step b (label_at worker Next);
    }))

-- what is said by the steps of a worker that is to leave its line
abbrev pub next_from : ℕ → Stay → BookView → Said
next_from further stay b = next_within further stay.line stay.worker b

-- `next W`: 10,000 steps at most, until the line changes or a step isn't done; the last reply
abbrev pub next_said : ℕ → ℕ → BookView → Said
next_said most worker b = next_within most (line_at (machine_of b) worker) worker b

-- a worker's undo takes a step out and leaves it at a line
abbrev pub undoes_within : ℕ → ℕ → BookView → Bool
undoes_within line worker b = is_undone (undo_reply_of (machine_of b) worker)
    && nat_eq (line_at (machine_of (with_debugger_call b (call.Undo worker))) worker) line

-- undos of a worker, while each takes a step out and leaves it at the line, and one more; so many before at most
unfoldable pub back_within : ℕ → ℕ → ℕ → BookView → Said
back_within zero line worker b = undo_said worker b
back_within (suc further) line worker b =
    unless_full b (cond (undoes_within line worker b)
    (back_within further line worker (with_debugger_call b (call.Undo worker)))
    (record {
      text = undo_text b.start.program worker (undo_reply_of (machine_of b) worker);
      book = with_debugger_call b (call.Undo worker);
    }))

-- what is said by the undos of a worker that is to leave its line
abbrev pub back_from : ℕ → Stay → BookView → Said
back_from further stay b = back_within further stay.line stay.worker b

-- `back W`: 10,000 undos at most, until the line changes or an undo takes no step out; the last reply
abbrev pub back_said : ℕ → ℕ → BookView → Said
back_said most worker b = back_within most (line_at (machine_of b) worker) worker b

-- `roll S`
abbrev pub roll_said : ℕ → BookView → Said
roll_said serial b = unless_full b (record {
  text = roll_text serial (roll_reply (machine_of b) serial);
  book = with_debugger_call b (call.Roll serial);
})
