-- Receipts that stand in a journal.
use Rattle.std.specs.Prelude.{◌≡◌, ◌≢◌, ◌⊎◌, ◌≤◌, ◌+◌, ℕ, All, List, [], ◌∷◌, length, drop, slice_get, Some, cond}
use Rattle.std.specs.Prelude.{nat_eq}
use Rattle.std.specs.List.{AllByRecursion}
use Rattle.om_book_journal.specs.Records.{JournalRecord}
use Rattle.om_book.specs.declared.receipt.Receipt.{Receipt}
use Rattle.om_book.specs.Books.{BookView, records_of}
use Rattle.om_book.specs.Seats.{SeatView}

-- the receipt's place is not below the opening nor below `low`, and the seat's call with this reply is recorded there
abbrev pub Stands : List JournalRecord → ℕ → ℕ → ℕ → Receipt → Type 0
Stands journal seat opened low r = (opened ≤ r.place) × (low ≤ r.place)
    × (slice_get journal r.place ≡ Some (record { seat = seat; command = r.command; reply = r.reply }))

-- n receipts of one seat stand, each place above that of the receipt before
abbrev pub Counts : List JournalRecord → ℕ → ℕ → ℕ → List Receipt → ℕ → Type 0
Counts journal seat opened low [] n = n ≡ 0
Counts journal seat opened low (r ∷ rs) n =
    (Stands journal seat opened low r × ((m : ℕ) × (n ≡ m + 1) × Counts journal seat opened (r.place + 1) rs m))
    ⊎ ((¬ Stands journal seat opened low r) × Counts journal seat opened (r.place + 1) rs n)

-- n receipts of all seats stand
abbrev pub CountsAll : List JournalRecord → ℕ → List SeatView → ℕ → Type 0
CountsAll journal opened [] n = n ≡ 0
CountsAll journal opened (s ∷ ss) n =
    (m : ℕ) × (k : ℕ) × (n ≡ m + k) × Counts journal s.number opened opened s.receipts m × CountsAll journal opened ss k

-- n receipts of all seats stand in a book, at records that it got since the opening
abbrev pub CountsSince : BookView → BookView → List SeatView → ℕ → Type 0
CountsSince opened book seats n = CountsAll book.journal (records_of opened) seats n

-- what a seat called, by the records from a place on
abbrev pub calls_of : ℕ → ℕ → List JournalRecord → List Receipt
calls_of seat place [] = []
calls_of seat place (r ∷ rs) =
    cond (nat_eq r.seat seat)
    (record { place = place; command = r.command; reply = r.reply } ∷ calls_of seat (place + 1) rs)
    (calls_of seat (place + 1) rs)

abbrev pub number_of : SeatView → ℕ
number_of s = s.number

abbrev pub receipts_in : SeatView → ℕ
receipts_in s = length s.receipts

-- no two seats have one number
abbrev pub AllDiffer : List SeatView → Type 0
AllDiffer [] = Unit {0}
AllDiffer (s ∷ ss) = AllByRecursion (λ (t : SeatView). t.number ≢ s.number) ss × AllDiffer ss

-- some seat has the number
abbrev pub IsSeat : List SeatView → ℕ → Type 0
IsSeat [] n = ⊥
IsSeat (s ∷ ss) n = (s.number ≡ n) ⊎ IsSeat ss n

-- each seat's receipts are its calls in the journal since the opening, and each record since then is of one of the
-- seats
pub record Covers (journal : List JournalRecord) (opened : ℕ) (seats : List SeatView) : Type 0 where
  pub receipts : All (λ (s : SeatView). s.receipts ≡ calls_of s.number opened (drop opened journal)) seats
  pub records : All (λ (r : JournalRecord). IsSeat seats r.seat) (drop opened journal)

-- each seat's receipts are its calls in a book since the opening, and each record since then is of one of the seats
abbrev pub CoversSince : BookView → BookView → List SeatView → Type 0
CoversSince opened book seats = Covers book.journal (records_of opened) seats
