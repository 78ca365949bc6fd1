-- Matter of proofs, for gate_checks too: the seats of a session are as many as it has parts, and differ.
use Rattle.std.specs.Prelude.{◌≡◌, ◌≢◌, ◌<◌, ℕ, zero, suc, List, [], ◌∷◌, ◌++◌, length, map, refl}
use Rattle.std.specs.List.{AllByRecursion}
use Rattle.std.proofs.Common.{sym, ◌∙◌, ap, subst, arith, length-append}
use Rattle.std.proofs.lemmas.List.{length-map, map-append}
use Rattle.om_book.specs.Seats.{SeatView, seats_below}
use Rattle.om_book.specs.Standing.{AllDiffer, number_of}

pub seats_many : (n : ℕ) → length (seats_below n) ≡ n
seats_many zero = refl
seats_many (suc n) = omega (
  arith,
  length-append (seats_below n) (record { number = n; receipts = [] } ∷ []),
  seats_many n,
)

abbrev Distinct : List ℕ → Type 0
Distinct [] = Unit {0}
Distinct (n ∷ ns) = AllByRecursion (λ (k : ℕ). k ≢ n) ns × Distinct ns

none_of : (n : ℕ) (ss : List SeatView) → AllByRecursion (λ (k : ℕ). k ≢ n) (map number_of ss)
    → AllByRecursion (λ (t : SeatView). t.number ≢ n) ss
none_of n [] h = tt
none_of n (s ∷ ss) h = (h.0, none_of n ss h.1)

differ_of : (ss : List SeatView) → Distinct (map number_of ss) → AllDiffer ss
differ_of [] h = tt
differ_of (s ∷ ss) h = (none_of s.number ss h.0, differ_of ss h.1)

all_last : (P : ℕ → Type 0) (ns : List ℕ) (k : ℕ) → AllByRecursion P ns → P k → AllByRecursion P (ns ++ k ∷ [])
all_last P [] k h p = (p, tt)
all_last P (n ∷ ns) k h p = (h.0, all_last P ns k h.1 p)

distinct_last : (ns : List ℕ) (k : ℕ) → Distinct ns → AllByRecursion (λ (j : ℕ). j < k) ns → Distinct (ns ++ k ∷ [])
distinct_last [] k h small = (tt, tt)
distinct_last (n ∷ ns) k h small = (
  all_last (λ j. j ≢ n) ns k h.0 (λ e. omega (arith, e, small.0)),
  distinct_last
      ns k h.1 small.1,
)

all_more : (k : ℕ) (ns : List ℕ) → AllByRecursion (λ (j : ℕ). j < k) ns → AllByRecursion (λ (j : ℕ). j < suc k) ns
all_more k [] h = tt
all_more k (n ∷ ns) h = (omega (arith, h.0), all_more k ns h.1)

abbrev numbers : ℕ → List ℕ
numbers zero = []
numbers (suc n) = numbers n ++ n ∷ []

numbers_of : (n : ℕ) → map number_of (seats_below n) ≡ numbers n
numbers_of zero = refl
numbers_of (suc n) = map-append number_of (seats_below n) (record { number = n; receipts = [] } ∷ [])
    ∙ ap (λ ns. ns ++ n ∷ []) (numbers_of n)

all_small : (n : ℕ) → AllByRecursion (λ (j : ℕ). j < n) (numbers n)
all_small zero = tt
all_small (suc n) = all_last (λ j. j < suc n) (numbers n) n (all_more n (numbers n) (all_small n)) (omega arith)

distinct_numbers : (n : ℕ) → Distinct (numbers n)
distinct_numbers zero = tt
distinct_numbers (suc n) = distinct_last (numbers n) n (distinct_numbers n) (all_small n)

-- seats that came back in their places differ
pub seats_differ : (n : ℕ) (seats ss : List SeatView) → seats ≡ seats_below n → map number_of ss
    ≡ map number_of seats → AllDiffer ss
seats_differ n seats ss new back =
    differ_of ss (subst Distinct (sym (back ∙ ap (λ ts. map number_of ts) new ∙ numbers_of n)) (distinct_numbers n))

pub seats_count : (n : ℕ) (seats : List SeatView) → seats ≡ seats_below n → length seats ≡ n
seats_count n seats e = ap length e ∙ seats_many n

pub as_many_back : (ss ts : List SeatView) → map number_of ss ≡ map number_of ts → length ss ≡ length ts
as_many_back ss ts e = sym (length-map ss number_of) ∙ ap length e ∙ length-map ts number_of
