-- Which kind of reply a command has.
use Rattle.std.specs.Prelude.{◌≡◌, ℕ}
use Rattle.om_undo_history.specs.declared.reply.StepReply.{StepReply}
use Rattle.om_undo_history.specs.declared.reply.UndoReply.{UndoReply}
use Rattle.om_book_journal.specs.Runs.{reply_to}
use Rattle.om_book_journal.specs.declared.command.Command.{Command}
use Rattle.om_book_journal.specs.declared.command.Command.TheVariants as command
use Rattle.om_book_journal.specs.declared.command.Query.TheVariants as query
use Rattle.om_book_journal.specs.declared.reply.Reply.TheVariants as reply
use Rattle.om_undo.specs.Machines.{MachineView}
use Rattle.om_shell_debugger.specs.Calls.{IsOther}

pub never_step : (m : MachineView) (c : Command) (x : StepReply) → IsOther c → reply.Step x ≡ reply_to m c → ⊥
never_step m (command.Step worker choice) x other e = other
never_step m (command.Undo worker) x other e = other
never_step m (command.Roll serial) x other e = cc
never_step m (command.Look (query.Value object)) x other e = cc
never_step m (command.Look query.Ready) x other e = cc
never_step m (command.Look query.FirstReady) x other e = cc
never_step m (command.Look query.Entries) x other e = cc

pub never_undo : (m : MachineView) (c : Command) (x : UndoReply) → IsOther c → reply.Undo x ≡ reply_to m c → ⊥
never_undo m (command.Step worker choice) x other e = other
never_undo m (command.Undo worker) x other e = other
never_undo m (command.Roll serial) x other e = cc
never_undo m (command.Look (query.Value object)) x other e = cc
never_undo m (command.Look query.Ready) x other e = cc
never_undo m (command.Look query.FirstReady) x other e = cc
never_undo m (command.Look query.Entries) x other e = cc

pub undone_by_no_step : (m : MachineView) (worker : ℕ) (x : StepReply)
    → reply.Step x ≡ reply_to m (command.Undo worker) → ⊥
undone_by_no_step m worker x e = cc
