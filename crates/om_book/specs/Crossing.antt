-- Matter of proofs: a session may be shared by threads, and a seat may go to another one.
use Rattle.std.proofs.Crossing.{crosses}
use denote.RattleType.{RattleType}
use denote.Param.Send.{IsSend, IsSync, sendable}
use Rattle.std.specs.declared.sync.ledger.Ledger as ledger
use Rattle.std.proofs.sync.ledger.Book.TheSendSync as calls
use Rattle.std.proofs.sync.ledger.Share.TheSendSync as share
use Rattle.om_undo.specs.Crossing.{machine_send}
use Rattle.om_undo.specs.Names.{name_send, object_send}
use Rattle.om_book.specs.Replies.{step_send, undo_send, roll_send, names_send, first_send, entries_send}
use Rattle.om_undo.specs.Values.{value_send}
use Rattle.om_book.specs.contracts.book.Book as book
use Rattle.om_book_journal.specs.contracts.journal.JournalRecord as kept
use Rattle.om_book_journal.specs.contracts.kept.KeptCommand as command
use Rattle.om_book_journal.specs.contracts.reply.Reply as reply
use Rattle.om_book.specs.declared.session.Sitting as sitting
use Rattle.om_book.specs.contracts.receipt.Receipt as receipt
use Rattle.om_book.specs.contracts.session.Desk as desk
use Rattle.om_book.specs.contracts.session.Seat as seat
use Rattle.om_book.specs.contracts.session.Session as session

command_send : IsSend command.the_row
command_send = search (name_send, object_send, crosses, sendable) depth 40

reply_send : IsSend reply.the_field.row
reply_send =
    search (step_send, undo_send, roll_send, value_send, names_send, first_send, entries_send, sendable) depth 40

record_send : IsSend kept.the_row
record_send = search (step_send, undo_send, command_send, reply_send, crosses, sendable) depth 40

receipt_send : IsSend receipt.the_row
receipt_send = search (command_send, reply_send, sendable) depth 40

book_send : IsSend book.the_row
book_send = search (machine_send, record_send, crosses, sendable) depth 40

module _ (L : RattleType) (g : sitting.Ghosts L.Denot) (l : ledger.Ghosts L.Denot) (s : IsSend L) (y : IsSync L) where
  desk_send : IsSend (desk.the_row L g l)
  desk_send = search (book_send, calls.the_send, share.the_send, crosses, sendable) depth 40

  pub session_sync : IsSync (session.the_row L g l)
  session_sync = search (desk_send, crosses, sendable) depth 40

  pub seat_send : IsSend (seat.the_row L g l)
  seat_send = search (receipt_send, share.the_send, crosses, sendable) depth 40
