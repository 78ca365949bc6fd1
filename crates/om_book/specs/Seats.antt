-- What contracts see of a seat and of a session.
use Rattle.std.specs.Prelude.{◌≡◌, ◌≤◌, ℕ, zero, suc, List, [], ◌∷◌, ◌++◌, length}
use Rattle.om_book_journal.specs.Runs.{IsReply}
use Rattle.om_book_journal.specs.Journals.{IsLegal}
use Rattle.om_book.specs.Books.{BookView, machine_of, records_of, IsGrown}
use Rattle.om_book_journal.specs.declared.command.Command.{Command}
use Rattle.om_book_journal.specs.declared.reply.Reply.{Reply}
use Rattle.om_book.specs.declared.receipt.Receipt.{Receipt}

pub record SeatView : Type 0 where
  pub number : ℕ
  pub receipts : List Receipt

-- how many seats a session has, and how many calls the journal had at its opening
pub record SessionView : Type 0 where
  pub seats : ℕ
  pub opened : ℕ

-- the receipt of a command that was answered this reply, with its record at this place
abbrev pub receipt_of : ℕ → Command → Reply → Receipt
receipt_of place command reply = record { place = place; command = command; reply = reply }

-- the seat with one more receipt
abbrev pub with_receipt : SeatView → ℕ → Command → Reply → SeatView
with_receipt s place command reply =
    record s { receipts = s.receipts ++ receipt_of place command reply ∷ [] }

-- the seat has one more receipt: that of this command and reply, with some place
abbrev pub GetsReceipt : SeatView → SeatView → Command → Reply → Type 0
GetsReceipt old new command reply = (place : ℕ) × (new ≡ with_receipt old place command reply)

-- a book answered the seat's command: its records have the replies that a machine of one thread gives there, the machine
-- that they leave gives this reply, and the place of the seat's new receipt is the number of the records
pub record IsAnsweredBy (book : BookView) (old new : SeatView) (command : Command) (reply : Reply) : Type 0 where
  pub legal : IsLegal book.start book.journal
  pub replied : IsReply (machine_of book) command reply
  pub receipt : new ≡ with_receipt old (records_of book) command reply

-- some book answered the seat's command: the opened one with more records, at least as many as the seat has receipts
abbrev pub IsAnsweredSince : BookView → SeatView → SeatView → Command → Reply → Type 0
IsAnsweredSince opened old new command reply =
    (b : BookView) × (n : ℕ) × IsGrown opened b n × (length old.receipts ≤ n) × IsAnsweredBy b old new command reply

-- so many seats, numbered from 0, that have not called
abbrev pub seats_below : ℕ → List SeatView
seats_below zero = []
seats_below (suc n) = seats_below n ++ record { number = n; receipts = [] } ∷ []
