-- What a debuggee is, and the calls that it answered.
use Rattle.std.specs.Prelude.{◌≡◌, ◌+◌, ◌≤◌, ◌++◌, ℕ, List, [], ◌∷◌, Option, None, Some, map}
use Rattle.std.specs.Prelude.{Vec, vec_len, vec_capacity}
use Rattle.std.specs.declared.alloc.Global.{Global}
use Rattle.om_book_journal.specs.declared.command.Command.{Command}
use Rattle.om_book_journal.specs.declared.reply.Reply.{Reply}
use Rattle.om_book.specs.Seats.{SeatView, receipt_of}
use Rattle.om_book.specs.declared.receipt.Receipt.{Receipt}

-- what no call changes: a debuggee's number, and how many workers its commands may name
pub record Place : Type 0 where
  pub number : ℕ
  pub workers : ℕ

-- the place of a seat, in a session of so many workers
abbrev pub place_of : ℕ → SeatView → Place
place_of workers s = record { number = s.number; workers = workers }

-- the place in the journal of the last of these
abbrev pub last_place_in : List Receipt → Option ℕ
last_place_in [] = None
last_place_in (r ∷ []) = Some r.place
last_place_in (r ∷ s ∷ rs) = last_place_in (s ∷ rs)

-- one more call was answered: this command with this reply, and its record has some place
abbrev pub AddsReceipt : List Receipt → List Receipt → Command → Reply → Type 0
AddsReceipt old new command reply = (at : ℕ) × (new ≡ old ++ receipt_of at command reply ∷ [])

-- so many more items fit into the capacity of a vector
abbrev pub HasRoomFor : {A : Type 0} → ℕ → Vec A Global → Type 0
HasRoomFor more items = vec_len items + more ≤ vec_capacity items

-- behind the items that were there are those that waited; f gives of each what it gave before
abbrev pub ComeBack : {A B : Type 0} → (A → B) → (waiting old new : Vec A Global) → Type 0
ComeBack f waiting old new = map f new.items ≡ map f old.items ++ map f waiting.items
