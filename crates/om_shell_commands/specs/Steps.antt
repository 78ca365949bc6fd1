-- The texts of replies to steps and undos, and to lines that are refused.
use Rattle.std.specs.Prelude.{ℕ, List, [], ◌++◌, codes, decimal, Option, None, Some}
use Rattle.om_code.specs.declared.raw.Raw.{Raw}
use Rattle.om_code.specs.declared.frame.Fault.{Fault}
use Rattle.om_code.specs.Faults.{fault_number}
use Rattle.om_state.specs.declared.step.Blocked.{Blocked}
use Rattle.om_state.specs.declared.step.Blocked.TheVariants as blocked
use Rattle.om_state.specs.Values.{blocked_number}
use Rattle.om_shell_commands.specs.declared.command.CommandFault.{CommandFault}
use Rattle.om_shell_commands.specs.declared.command.CommandFault.TheVariants.{UnknownCommand, BadArgument}
use Rattle.om_undo_history.specs.declared.reply.StepReply.{StepReply}
use Rattle.om_undo_history.specs.declared.reply.StepReply.TheVariants as step_reply
use Rattle.om_undo_history.specs.declared.reply.UndoReply.{UndoReply}
use Rattle.om_undo_history.specs.declared.reply.UndoReply.TheVariants.{Undone, Conflict, Nothing}
use Rattle.om_shell_commands.specs.Objects.{object_text}

-- `#S worker W line L`
abbrev pub entry_text : ℕ → ℕ → ℕ → List ℕ
entry_text serial worker line = codes "#" ++ decimal serial ++ codes " worker " ++ decimal worker ++ codes " line "
    ++ decimal line

-- what stands behind a step that came to a fault
abbrev pub fault_text : Option Fault → List ℕ
fault_text None = []
fault_text (Some fault) = codes " fault F" ++ decimal (fault_number fault)

-- which worker holds the lock, or has to be idle
abbrev pub blocker_text : Blocked → List ℕ
blocker_text (blocked.Critical worker) = codes " by " ++ decimal worker
blocker_text (blocked.Busy worker) = codes " by " ++ decimal worker
blocker_text _ = []

-- a step that was made, on a line
abbrev pub done_text : ℕ → ℕ → ℕ → Option Fault → List ℕ
done_text serial worker line fault = entry_text serial worker line ++ fault_text fault ++ codes "\n"

abbrev pub step_text : ℕ → StepReply → List ℕ
step_text worker (step_reply.Done serial line fault) = done_text serial worker line fault
step_text worker (step_reply.Blocked why) = codes "blocked B" ++ decimal (blocked_number why) ++ blocker_text why
    ++ codes "\n"
step_text worker step_reply.Ended = codes "ended\n"

-- a step that was taken out, on a line
abbrev pub undone_text : ℕ → ℕ → ℕ → List ℕ
undone_text serial worker line = codes "undone " ++ entry_text serial worker line ++ codes "\n"

-- the first later step that an undo conflicts with
abbrev pub refuser_text : ℕ → ℕ → List ℕ
refuser_text serial worker = codes "refused by #" ++ decimal serial ++ codes " worker " ++ decimal worker

abbrev pub undo_text : Raw → ℕ → UndoReply → List ℕ
undo_text program worker (Undone serial line) = undone_text serial worker line
undo_text program worker (Conflict serial other at) = refuser_text serial other ++ codes " on "
    ++ object_text program at ++ codes "\n"
undo_text program worker Nothing = codes "nothing to undo\n"

abbrev pub command_fault_text : CommandFault → List ℕ
command_fault_text UnknownCommand = codes "H1 unknown command\n"
command_fault_text BadArgument = codes "H2 bad argument\n"

-- a command that needs a record beyond those that the journal takes
abbrev pub full_text : List ℕ
full_text = codes "full\n"
