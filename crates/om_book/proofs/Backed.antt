-- Answers that are kept, turn by turn.
use Rattle.std.specs.Prelude.{◌≡◌, ◌<◌, ◌≤◌, ◌-◌, ◌+◌, ◌++◌, ℕ, suc, List, [], ◌∷◌, length, take, drop, slice_get, refl}
use Rattle.std.specs.List.{remove}
use Rattle.std.proofs.Common.{Bool, false, IsTrue, get_or, inl, inr, subst, sym, ◌∙◌, ap, arith, drop-cons, add-one, append_assoc, append-nil}
use Rattle.std.proofs.Math.Seq.{take-append_seam, drop-append_seam}
use Rattle.std.proofs.lemmas.List.{take_more, length-take-le, drop_all}
use Rattle.om_book.specs.Seats.{SeatView}
use Rattle.om_book.specs.declared.order.Answer.{Answer}
use Rattle.om_book.specs.declared.order.Order.{Order}
use Rattle.om_book.specs.Backing.{Turn, turn_of, turns_at, turns, IsBacked, Keeps, Passes, IsUnderway}

pub drop_front : {A : Type 0} (xs : List A) (i : ℕ) (x : A) → i < length xs → x ≡ get_or xs i x
    → drop i xs ≡ x ∷ drop (i + 1) xs
drop_front xs i x within is = drop-cons xs i x within ∙ (λ j. sym is j ∷ drop (sym (add-one i) j) xs)

pub not_true : (b : Bool) → b ≡ false → IsTrue b → ⊥
not_true b fails holds = cc

keeps_none : (us : List Turn) (rest : List Answer) → Keeps us [] rest → rest ≡ []
keeps_none [] rest k = k
keeps_none (u ∷ us) rest k = k

-- the answer of a turn is kept
pub passes_kept : (t : Turn) (xs : List Answer) (i : ℕ) (a : Answer) → i < length xs → a ≡ get_or xs i a
    → IsBacked t a → Passes (t ∷ []) xs i xs (i + 1)
passes_kept t xs i a within is backed us rest k =
    let more = take_more xs i a within ∙ ap (λ b. take i xs ++ b ∷ []) (sym is) in (
      a ∷ rest,
      subst (λ l. Keeps (t ∷ us) l (a ∷ rest)) (sym (drop_front xs i a within is)) (inl (backed, (rest, refl, k))),
      sym (ap (λ l. l ++ rest) more ∙ append_assoc (take i xs) (a ∷ []) rest),
    )

front_stays : (xs : List Answer) (i : ℕ) → i < length xs → take i (remove xs i) ≡ take i xs
front_stays xs i within = subst (λ n. take n (remove xs i) ≡ take i xs) (length-take-le i xs (omega (arith, within)))
    (take-append_seam (take i xs) (drop (suc i) xs))

rest_moves : (xs : List Answer) (i : ℕ) → i < length xs → drop i (remove xs i) ≡ drop (i + 1) xs
rest_moves xs i within = subst (λ n. drop n (remove xs i) ≡ drop (suc i) xs) (length-take-le i xs (omega (arith, within)))
    (drop-append_seam (take i xs) (drop (suc i) xs)) ∙ ap (λ n. drop n xs) (sym (add-one i))

-- the answer of a turn is left out
pub passes_without : (t : Turn) (xs ys : List Answer) (i : ℕ) (a : Answer) → i < length xs → a ≡ get_or xs i a
    → ¬ IsBacked t a → ys ≡ remove xs i → Passes (t ∷ []) xs i ys i
passes_without t xs ys i a within is unbacked e us rest k =
    let left : drop i ys ≡ drop (i + 1) xs = ap (λ l. drop i l) e ∙ rest_moves xs i within in
    let same : take i ys ≡ take i xs = ap (λ l. take i l) e ∙ front_stays xs i within in (
      rest,
      subst (λ l. Keeps (t ∷ us) l rest) (sym (drop_front xs i a within is))
          (inr (unbacked, subst (λ l. Keeps us l rest) left k)),
      ap (λ l. l ++ rest) (sym same),
    )

-- no answer is left
pub passes_end : (t : Turn) (xs : List Answer) (i : ℕ) → length xs ≤ i → Passes (t ∷ []) xs i xs i
passes_end t xs i past us rest k =
    let none : drop i xs ≡ [] = drop_all i xs past in (
      rest,
      subst (λ l. Keeps (t ∷ us) l rest) (sym none) (keeps_none us rest (subst (λ l. Keeps us l rest) none k)),
      refl,
    )

pub passes_none : (xs : List Answer) (i : ℕ) → Passes [] xs i xs i
passes_none xs i us rest k = (rest, k, refl)

passes_both : (ts us : List Turn) (xs ys zs : List Answer) (i j k : ℕ) → Passes ts xs i ys j → Passes us ys j zs k
    → Passes (ts ++ us) xs i zs k
passes_both ts us xs ys zs i j k first second vs rest kept =
    let b = second vs rest kept in
    let a = first (us ++ vs) b.0 b.1 in (
      a.0,
      subst (λ ws. Keeps ws (drop i xs) a.0) (sym (append_assoc ts us vs)) a.1,
      a.2 ∙ b.2,
    )

pub underway_start : (due : List Turn) (xs : List Answer) (i : ℕ) → IsUnderway due due xs i xs i
underway_start due xs i = record { made = []; parted = refl; passes = passes_none xs i }

pub underway_more : (due ts rest : List Turn) (xs ys zs : List Answer) (i j k : ℕ)
    → IsUnderway due (ts ++ rest) xs i ys j → Passes ts ys j zs k → IsUnderway due rest xs i zs k
underway_more due ts rest xs ys zs i j k u p = record {
  made = u.made ++ ts;
  parted = u.parted ∙ sym (append_assoc u.made ts rest);
  passes = passes_both u.made ts xs ys zs i j k u.passes p;
}

pub underway_all : (due : List Turn) (xs ys : List Answer) (i j : ℕ) → IsUnderway due [] xs i ys j
    → Passes due xs i ys j
underway_all due xs ys i j u = subst (λ ts. Passes ts xs i ys j) (sym (u.parted ∙ append-nil u.made)) u.passes

pub turns_next : {V : Type 0} (items : V → List Order) (k : ℕ) (ss : List SeatView) (vs : List V) (i : ℕ) (s : SeatView)
    (v : V) → i < length ss → s ≡ get_or ss i s → i < length vs → v ≡ get_or vs i v
    → turns_at items k (drop i ss) (drop i vs)
    ≡ turn_of s.receipts (slice_get (items v) k) ++ turns_at items k (drop (i + 1) ss) (drop (i + 1) vs)
turns_next items k ss vs i s v within is inside lies =
    ap (λ ws. turns_at items k ws (drop i vs)) (drop_front ss i s within is)
    ∙ ap (λ ws. turns_at items k (s ∷ drop (i + 1) ss) ws) (drop_front vs i v inside lies)

pub turns_rest : {V : Type 0} (items : V → List Order) (k n : ℕ) (ss : List SeatView) (vs : List V) → k < n
    → turns items k (n - k) ss vs ≡ turns_at items k ss vs ++ turns items (k + 1) (n - (k + 1)) ss vs
turns_rest items k n ss vs h =
    let e : n - k ≡ suc (n - (k + 1)) = omega arith in ap (λ m. turns items k m ss vs) e

-- behind the last turn, what is kept is kept of all
pub keeps_all : (due : List Turn) (xs ys : List Answer) (j : ℕ) → Passes due xs 0 ys j → Keeps due xs (take j ys)
keeps_all due xs ys j p =
    let last = p [] [] refl in
    let is : last.0 ≡ take j ys = last.2 ∙ append-nil (take j ys) in
    subst (λ kept. Keeps due xs kept) is (subst (λ ts. Keeps ts xs last.0) (append-nil due) last.1)
