-- Commands and replies of undos as a journal keeps them.
use Rattle.std.specs.Prelude.{Bool, true, false, Option, Some, None}
use Rattle.om_state.specs.declared.step.Choice.TheVariants as choice
use Rattle.om_foot.specs.declared.object.Obj.{Obj}
use Rattle.om_foot.specs.declared.object.Obj.TheVariants as object
use Rattle.om_undo_history.specs.declared.reply.UndoReply.{UndoReply}
use Rattle.om_undo_history.specs.declared.reply.UndoReply.TheVariants as undo_reply
use Rattle.om_book_journal.specs.declared.command.Query.TheVariants as query
use Rattle.om_book_journal.specs.declared.command.Command.{Command}
use Rattle.om_book_journal.specs.declared.command.Command.TheVariants as command
use Rattle.om_book_journal.specs.declared.kept.ObjectParts.{ObjectParts}
use Rattle.om_book_journal.specs.declared.kept.ObjectParts.TheVariants as object_parts
use Rattle.om_book_journal.specs.declared.kept.CommandParts.{CommandParts}
use Rattle.om_book_journal.specs.declared.kept.CommandParts.TheVariants as parts
use Rattle.om_book_journal.specs.declared.kept.UndoParts.{UndoParts}
use Rattle.om_book_journal.specs.declared.kept.UndoneStep.{UndoneStep}
use Rattle.om_book_journal.specs.declared.kept.UndoParts.TheVariants as undo_parts

-- the object of these parts
abbrev pub object_in : ObjectParts → Obj
object_in (object_parts.Control worker) = object.Control worker
object_in (object_parts.Global variable index) = object.Global variable index
object_in (object_parts.Lock number) = object.Lock number
object_in object_parts.Output = object.Output
object_in (object_parts.Events worker) = object.Events worker
object_in (object_parts.Named q) = q.value

-- the command of these parts
abbrev pub command_in : CommandParts → Command
command_in (parts.Next worker) = command.Step worker choice.Next
command_in (parts.Start worker task) = command.Step worker (choice.Start task.value)
command_in (parts.Undo worker) = command.Undo worker
command_in (parts.Roll serial) = command.Roll serial
command_in (parts.Value q) = command.Look (query.Value (object_in q))
command_in parts.Ready = command.Look query.Ready
command_in parts.FirstReady = command.Look query.FirstReady
command_in parts.Entries = command.Look query.Entries

-- the reply of these parts
abbrev pub undo_reply_in : UndoParts → UndoReply
undo_reply_in (undo_parts.Undone line serial) = undo_reply.Undone serial line
undo_reply_in (undo_parts.Conflict c) =
    undo_reply.Conflict c.value.serial c.value.worker (object_in c.value.object)
undo_reply_in undo_parts.Nothing = undo_reply.Nothing

-- the step that an undo took out, where it took one out
abbrev pub undone_in : UndoReply → Option UndoneStep
undone_in (undo_reply.Undone serial line) = Some (record { serial = serial; line = line })
undone_in (undo_reply.Conflict serial worker object) = None
undone_in undo_reply.Nothing = None

-- the undo was refused
abbrev pub is_conflict : UndoReply → Bool
is_conflict (undo_reply.Conflict serial worker object) = true
is_conflict _ = false
