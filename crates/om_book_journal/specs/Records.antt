-- Records of a journal: what contracts see of one, and how it is kept.
use Rattle.std.specs.Prelude.{ℕ, Option, Some, None}
use Rattle.om_state.specs.declared.step.Choice.TheVariants as choice
use Rattle.om_undo_history.specs.declared.reply.UndoReply.{UndoReply}
use Rattle.om_book_journal.specs.declared.command.Command.{Command}
use Rattle.om_book_journal.specs.declared.command.Command.TheVariants as command
use Rattle.om_book_journal.specs.declared.reply.Reply.{Reply}
use Rattle.om_book_journal.specs.declared.reply.Reply.TheVariants as reply
use Rattle.om_book_journal.specs.declared.journal.AskedForms.{AskedForms}
use Rattle.om_book_journal.specs.declared.journal.AskedForms.TheVariants as asked
use Rattle.om_book_journal.specs.declared.journal.RecordForms.{RecordForms}
use Rattle.om_book_journal.specs.declared.journal.RecordForms.TheVariants as forms
use Rattle.om_book_journal.specs.declared.journal.ReplyIn.{ReplyIn}
use Rattle.om_book_journal.specs.declared.journal.ReplyIn.TheVariants as told

-- a call that was answered: the number of the seat that made it, from 0, what was asked and what was answered
pub record JournalRecord : Type 0 where
  pub seat : ℕ
  pub command : Command
  pub reply : Reply

-- the command of which a record is to come
abbrev pub asked_in : AskedForms → Command
asked_in (asked.Next worker) = command.Step worker choice.Next
asked_in (asked.Undo worker) = command.Undo worker
asked_in (asked.Other call) = call.value.command

-- the record of these forms
abbrev pub record_in : RecordForms → JournalRecord
record_in (forms.Step seat worker r) =
    record { seat = seat; command = command.Step worker choice.Next; reply = reply.Step r }
record_in (forms.Undo seat worker r) =
    record { seat = seat; command = command.Undo worker; reply = reply.Undo r }
record_in (forms.Other seat call) =
    record { seat = seat; command = call.value.command; reply = call.value.reply }

-- the reply that is read where it lies
abbrev pub reply_in : ReplyIn → Reply
reply_in (told.Step r) = reply.Step r
reply_in (told.Undo r) = reply.Undo r.now
reply_in (told.Other r) = r.now
