-- Rounds: in each, every list that still has an order gives its next.
use Rattle.std.specs.Prelude.{◌≡◌, ◌≢◌, ℕ, zero, suc, ◌+◌, max, List, [], ◌∷◌, ◌++◌, length, slice_get, Option, None, Some, Vec}
use Rattle.std.specs.List.{AllPairs}
use Rattle.std.specs.declared.alloc.Global.{Global}
use Rattle.om_book.specs.declared.order.Answer.{Answer}
use Rattle.om_book.specs.declared.order.Order.{Order}

abbrev pub answer_number : Answer → ℕ
answer_number a = a.number

abbrev pub listed : Option Order → List ℕ
listed None = []
listed (Some o) = o.number ∷ []

-- the numbers of the k-th orders
abbrev pub round_at : {V : Type 0} → (V → List Order) → ℕ → List V → List ℕ
round_at items k [] = []
round_at items k (v ∷ vs) = listed (slice_get (items v) k) ++ round_at items k vs

-- n rounds from the k-th on
abbrev pub rounds : {V : Type 0} → (V → List Order) → ℕ → ℕ → List V → List ℕ
rounds items k zero vs = []
rounds items k (suc n) vs = round_at items k vs ++ rounds items (k + 1) n vs

-- how many orders the longest list has
abbrev pub longest : {V : Type 0} → (V → List Order) → List V → ℕ
longest items [] = 0
longest items (v ∷ vs) = max (length (items v)) (longest items vs)

-- the numbers of all orders, round by round
abbrev pub in_rounds : {V : Type 0} → (V → List Order) → List V → List ℕ
in_rounds items vs = rounds items 0 (longest items vs) vs

-- lists of orders: the numbers of a round of them
abbrev pub numbers_at : ℕ → List (Vec Order Global) → List ℕ
numbers_at round orders = round_at (λ o. o.items) round orders

-- the numbers of all orders in these lists, round by round
abbrev pub numbers_of : List (Vec Order Global) → List ℕ
numbers_of orders = in_rounds (λ o. o.items) orders

-- no two of the numbers are the same
abbrev pub NumbersDiffer : List ℕ → Type 0
NumbersDiffer ns = AllPairs (λ n m. n ≢ m) ns

-- what was added is a beginning of what was due, and this is left
pub record IsBeginning (old new due rest : List ℕ) : Type 0 where
  pub front : List ℕ
  pub added : new ≡ old ++ front
  pub left : due ≡ front ++ rest

-- what was added is a beginning of what was due
abbrev pub Begins : List ℕ → List ℕ → List ℕ → Type 0
Begins old new due = (rest : List ℕ) × IsBeginning old new due rest
