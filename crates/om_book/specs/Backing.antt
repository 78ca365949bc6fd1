-- Answers that a receipt backs.
use Rattle.std.specs.Prelude.{◌≡◌, ◌⊎◌, ◌+◌, ◌++◌, ℕ, zero, suc, List, [], ◌∷◌, map, take, drop, slice_get, Option, None, Some, Ok}
use Rattle.std.specs.Prelude.{All, Vec, false}
use Rattle.std.specs.declared.alloc.Global.{Global}
use Rattle.om_book.specs.Seats.{SeatView, receipt_of}
use Rattle.om_book.specs.declared.backing.Walk.{Walk}
use Rattle.om_book_journal.specs.declared.reply.Reply.{Reply}
use Rattle.om_book.specs.declared.receipt.Receipt.{Receipt}
use Rattle.om_book.specs.declared.order.Answer.{Answer}
use Rattle.om_book.specs.declared.order.Order.{Order}
use Rattle.om_book.specs.Rounds.{answer_number, longest, numbers_of, Begins}

-- x is the item of the list at this place
abbrev pub HasAt : {A : Type 0} → List A → A → ℕ → Type 0
HasAt xs x i = slice_get xs i ≡ Some x

-- x is an item of the list
abbrev pub Has : {A : Type 0} → List A → A → Type 0
Has xs x = (i : ℕ) × HasAt xs x i

-- an order, and the receipts of the seat that was told it
pub record Turn : Type 0 where
  pub receipts : List Receipt
  pub order : Order

abbrev pub turn : List Receipt → Order → Turn
turn receipts o = record { receipts = receipts; order = o }

-- the turn of an order, where there is one
abbrev pub turn_of : List Receipt → Option Order → List Turn
turn_of receipts None = []
turn_of receipts (Some o) = turn receipts o ∷ []

-- the turns of a round: the k-th orders, each with its seat's receipts
abbrev pub turns_at : {V : Type 0} → (V → List Order) → ℕ → List SeatView → List V → List Turn
turns_at items k [] vs = []
turns_at items k (s ∷ ss) [] = []
turns_at items k (s ∷ ss) (v ∷ vs) = turn_of s.receipts (slice_get (items v) k) ++ turns_at items k ss vs

-- those of n rounds from the k-th on
abbrev pub turns : {V : Type 0} → (V → List Order) → ℕ → ℕ → List SeatView → List V → List Turn
turns items k zero ss vs = []
turns items k (suc n) ss vs = turns_at items k ss vs ++ turns items (k + 1) n ss vs

-- the turns of all orders, round by round, where `items` gives the orders of a seat
abbrev pub in_turns : {V : Type 0} → (V → List Order) → List SeatView → List V → List Turn
in_turns items ss vs = turns items 0 (longest items vs) ss vs

-- the turns of all orders, round by round; there is one list of orders for each seat
abbrev pub turns_told : List SeatView → List (Vec Order Global) → List Turn
turns_told seats orders = in_turns (λ o. o.items) seats orders

-- there is a place, and among the receipts is that of the order's command with the reply at this place
abbrev pub IsReceipted : Turn → Option ℕ → Reply → Type 0
IsReceipted t place x = (at : ℕ) × (place ≡ Some at)
    × Has t.receipts (receipt_of at t.order.command x)

-- the answer has the order's number, and where it has a reply, the seat has the receipt of it
abbrev pub IsBacked : Turn → Answer → Type 0
IsBacked t a = (a.number ≡ t.order.number) × ((x : Reply) → a.reply ≡ Ok x → IsReceipted t a.place x)

-- of the answers that came, one for each turn, those are kept that their turn backs, and no others
abbrev pub Keeps : List Turn → List Answer → List Answer → Type 0
Keeps [] came kept = kept ≡ []
Keeps (t ∷ ts) [] kept = kept ≡ []
Keeps (t ∷ ts) (a ∷ later) kept =
    (IsBacked t a × ((rest : List Answer) × (kept ≡ a ∷ rest) × Keeps ts later rest))
    ⊎ ((¬ IsBacked t a) × Keeps ts later kept)

-- of the answers that came to the orders of these seats, those are kept that the seats' receipts back, and no others
abbrev pub KeepsBacked : List SeatView → List (Vec Order Global) → Vec Answer Global → Vec Answer Global → Type 0
KeepsBacked seats orders came kept = Keeps (turns_told seats orders) came.items kept.items

-- these are kept of *some* answers, whose numbers are a beginning of those that were due; it binds nothing to answers
-- that really came
abbrev pub AreKept : List ℕ → List Turn → List Answer → Type 0
AreKept due ts kept = (came : List Answer) × Begins [] (map answer_number came) due × Keeps ts came kept

-- the answer is that of one of the turns
abbrev pub IsOfOne : List Turn → Answer → Type 0
IsOfOne ts a = (t : Turn) × Has ts t × IsBacked t a

-- these are kept of *some* answers, whose numbers are a beginning of the numbers of the orders: those that the
-- receipts of the orders' seats back; it binds nothing to answers that really came
abbrev pub KeptOfOrders : List SeatView → List (Vec Order Global) → Vec Answer Global → Type 0
KeptOfOrders seats orders kept = AreKept (numbers_of orders) (turns_told seats orders) kept.items

-- each answer is to one of the orders of these seats, and the seat's receipts back it
abbrev pub AllBacked : List SeatView → List (Vec Order Global) → Vec Answer Global → Type 0
AllBacked seats orders answers = All (IsOfOne (turns_told seats orders)) answers.items

-- ---- for proofs: a walk over answers, turn by turn

-- turns lead from answers, of which those below i are kept, to answers of which those below j are: what is kept behind
-- them is kept of all
abbrev pub Passes : List Turn → List Answer → ℕ → List Answer → ℕ → Type 0
Passes ts xs i ys j = (us : List Turn) (rest : List Answer) → Keeps us (drop j ys) rest
    → (all : List Answer) × Keeps (ts ++ us) (drop i xs) all × (take i xs ++ all ≡ take j ys ++ rest)

-- turns lead a walk from where it was to where it is
abbrev pub Leads : List Turn → Walk → Walk → Type 0
Leads ts old new = Passes ts old.answers.items old.at new.answers.items new.at

-- a walk went through a round: the turns of the orders in it
abbrev pub LeadsRound : ℕ → List SeatView → List (Vec Order Global) → Walk → Walk → Type 0
LeadsRound round seats orders old new = Leads (turns_at (λ o. o.items) round seats orders) old new

-- a walk that is not marked as strange was not marked before, and has the same answers
abbrev pub SameUnlessStrange : Walk → Walk → Type 0
SameUnlessStrange old new = new.strange ≡ false → (old.strange ≡ false) × (new.answers.items ≡ old.answers.items)

-- the turns up to here lead from answers to answers, and these turns are to come
pub record IsUnderway (due rest : List Turn) (xs : List Answer) (i : ℕ) (ys : List Answer) (j : ℕ) : Type 0 where
  pub made : List Turn
  pub parted : due ≡ made ++ rest
  pub passes : Passes made xs i ys j
