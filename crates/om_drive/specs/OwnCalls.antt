-- The calls that a free run makes.
use Rattle.std.specs.Prelude.{◌≡◌, ℕ, suc, Bool, true, false, not, nat_eq, filter, List, [], ◌∷◌, map}
use Rattle.std.specs.List.{AllByRecursion}
use Rattle.om_book_journal.specs.Records.{JournalRecord}
use Rattle.om_book_journal.specs.declared.command.Command.{Command}
use Rattle.om_book_journal.specs.declared.command.Command.TheVariants as command
use Rattle.om_book_journal.specs.declared.command.Query.TheVariants as query
use Rattle.om_book.specs.Seats.{SeatView}
use Rattle.om_book.specs.declared.receipt.Receipt.{Receipt}

-- a worker's own call: a step of its own, or the question which task is the first that is ready
abbrev pub is_own_call : ℕ → Command → Bool
is_own_call worker (command.Step other choice) = nat_eq other worker
is_own_call worker (command.Look query.FirstReady) = true
is_own_call worker _ = false

-- the calls that are not the worker's own
abbrev pub others_in : ℕ → List Receipt → List Receipt
others_in worker rs = filter (λ r. not (is_own_call worker r.command)) rs

-- those of each of these lists, of which the first one is of this worker, the second one of the next, and so on
abbrev pub others_from : ℕ → List (List Receipt) → List (List Receipt)
others_from worker [] = []
others_from worker (rs ∷ more) = others_in worker rs ∷ others_from (suc worker) more

-- the calls that are not the worker's own are the same calls before and after
abbrev pub KeepsOtherCalls : {A : Type 0} → ℕ → (A → List Receipt) → A → A → Type 0
KeepsOtherCalls worker made old new = others_in worker (made new) ≡ others_in worker (made old)

-- for each item: the calls that are not its worker's own are the same calls before and after; item 0 is worker 0's
abbrev pub EachKeepsOtherCalls : {A : Type 0} → (A → List Receipt) → List A → List A → Type 0
EachKeepsOtherCalls made old new = others_from 0 (map made new) ≡ others_from 0 (map made old)

abbrev pub receipts_of : SeatView → List Receipt
receipts_of s = s.receipts

-- each record is an own call of the worker whose number its seat has
abbrev pub AreOwnCalls : List JournalRecord → Type 0
AreOwnCalls records = AllByRecursion (λ (r : JournalRecord). is_own_call r.seat r.command ≡ true) records
