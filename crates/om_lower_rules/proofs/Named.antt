-- What the instructions of a row name exists, step by step along the row; numbers in tables by first sight.
use Rattle.std.proofs.Common.{◌≡◌, ℕ, suc, ◌+◌, ◌<◌, ◌≤◌, Bool, true, false, List, [], ◌∷◌, ◌++◌, Some, refl, ap, ◌∙◌}
use Rattle.std.proofs.Common.{subst, ⊎_elim, arith}
use Rattle.std.specs.Prelude.{slice_get, fold, ◌||◌, if◌then◌else◌}
use Rattle.std.specs.List.{list_any}
use Rattle.std.proofs.lemmas.List.Folds.{list_any-append}
use Rattle.std.proofs.lemmas.Bool.{cases_lt}
use Rattle.om_code.specs.declared.instruction.Instr.{Instr}
use Rattle.om_code.specs.declared.raw.Line.{Line}
use Rattle.om_code.specs.declared.raw.Raw.{Raw}
use Rattle.om_code.specs.declared.raw.Slot.{Slot}
use Rattle.om_code.specs.Validity.{NamesKnown}
use Rattle.om_lower_rules.specs.Tables.{with_sight, table_of, number_in}

-- ---- along a row

-- from p to q each instruction names what exists
pub record Named (raw : Raw) (slots : List Slot) (code : List Line) (p q : ℕ) : Type 0 where
  pub by : (k : ℕ) → p ≤ k → k < q → (line : Line) → slice_get code k ≡ Some line → NamesKnown raw slots
      line.instruction

pub named_end : {raw : Raw} {slots : List Slot} {code : List Line} {p q : ℕ} → p ≡ q → Named raw slots code p q
named_end {raw} {slots} {code} {p} {q} r = record { by = λ k le lt. absurd (omega (arith, r)) }

pub named_ins : {raw : Raw} {slots : List Slot} {code : List Line} {R : Type 0} {p q l : ℕ} {x : Instr}
    → (slice_get code p ≡ Some (record { instruction = x; line = l })) × R
    → NamesKnown raw slots x → (R → Named raw slots code (p + 1) q) → Named raw slots code p q
named_ins {raw} {slots} {code} {R} {p} {q} {l} {x} r known k = record {
  by = λ k' le lt line is.
      ⊎_elim
      (λ (below : k' < p + 1).
      let here : k' ≡ p = omega arith in
      let same : record { instruction = x; line = l } ≡ line = cc (r.0, ap (λ z. slice_get code z) here, is) in
      subst (λ (z : Line). NamesKnown raw slots z.instruction) same known)
      (λ (behind : p + 1 ≤ k'). (k r.1).by k' behind lt line is)
      (cases_lt k' (p + 1));
}

pub named_part : {raw : Raw} {slots : List Slot} {code : List Line} {A R : ℕ → Type 0} {p q : ℕ}
    → (m : ℕ) × A m × R m → ((m : ℕ) → A m → Named raw slots code p m) → ((m : ℕ) → R m → Named raw slots code m q)
    → Named raw slots code p q
named_part {raw} {slots} {code} {A} {R} {p} {q} r first rest = record {
  by = λ k le lt line is.
      ⊎_elim (λ (below : k < r.0). (first r.0 r.1).by k le below line is) (λ (behind : r.0 ≤ k). (rest r.0 r.2).by k
      behind lt line is) (cases_lt k r.0);
}

-- ---- tables

-- the number of what is in a list leads to it
pub number_found : {A : Type 0} (is : A → Bool) (xs : List A) → list_any is xs ≡ true → (y : A)
    × (slice_get xs (number_in is xs) ≡ Some y) × (is y ≡ true)
number_found is [] e = absurd cc
number_found {A} is (x ∷ xs) e = first (λ more. number_found is xs more) (is x) refl e
  where
    first : (list_any is xs ≡ true → (y : A) × (slice_get xs (number_in is xs) ≡ Some y) × (is y ≡ true))
        → (b : Bool) → is x ≡ b → (b || list_any is xs) ≡ true
        → (y : A) × (slice_get (x ∷ xs) (if b then 0 else number_in is xs + 1) ≡ Some y) × (is y ≡ true)
    first behind true e more = (x, refl, e)
    first behind false e more =
        let rest = behind more in
        let next : number_in is xs + 1 ≡ suc (number_in is xs) = omega arith in
        (rest.0, ap (λ z. slice_get (x ∷ xs) z) next ∙ rest.1, rest.2)

-- a table has each of these
abbrev pub Has : {A : Type 0} → (A → A → Bool) → List A → List A → Type 0
Has same table [] = Unit {0}
Has same table (x ∷ xs) = (list_any (same x) table ≡ true) × Has same table xs

pub has_front : {A : Type 0} (same : A → A → Bool) (table xs ys : List A) → Has same table (xs ++ ys)
    → Has same table xs
has_front same table [] ys h = tt
has_front same table (x ∷ xs) ys h = (h.0, has_front same table xs ys h.1)

pub has_back : {A : Type 0} (same : A → A → Bool) (table xs ys : List A) → Has same table (xs ++ ys) → Has same table ys
has_back same table [] ys h = h
has_back same table (x ∷ xs) ys h = has_back same table xs ys h.1

pushed_keeps : {A : Type 0} (is : A → Bool) (found : List A) (x : A) → list_any is found ≡ true
    → list_any is (found ++ x ∷ []) ≡ true
pushed_keeps is found x e = list_any-append is found (x ∷ []) ∙ ap (λ z. z || list_any is (x ∷ [])) e

sight_keeps : {A : Type 0} (same : A → A → Bool) (is : A → Bool) (found : List A) (x : A) → list_any is found ≡ true
    → list_any is (with_sight same found x) ≡ true
sight_keeps same is found x e = kept (list_any (same x) found)
  where
    kept : (b : Bool) → list_any is (if b then found else found ++ x ∷ []) ≡ true
    kept true = e
    kept false = pushed_keeps is found x e

sight_new : {A : Type 0} (same : A → A → Bool) → ((x : A) → same x x ≡ true) → (found : List A) (x : A)
    → list_any (same x) (with_sight same found x) ≡ true
sight_new same one found x = new (list_any (same x) found) refl
  where
    new : (b : Bool) → list_any (same x) found ≡ b → list_any (same x) (if b then found else found ++ x ∷ []) ≡ true
    new true e = e
    new false e = list_any-append (same x) found (x ∷ []) ∙ ap (λ z. z || (same x x || false)) e
        ∙ ap (λ z. z || false) (one x)

fold_keeps : {A : Type 0} (same : A → A → Bool) (is : A → Bool) (xs found : List A) → list_any is found ≡ true
    → list_any is (fold (with_sight same) found xs) ≡ true
fold_keeps same is [] found e = e
fold_keeps same is (x ∷ xs) found e = fold_keeps same is xs (with_sight same found x) (sight_keeps same is found x e)

fold_has : {A : Type 0} (same : A → A → Bool) → ((x : A) → same x x ≡ true) → (xs found : List A)
    → Has same (fold (with_sight same) found xs) xs
fold_has same one [] found = tt
fold_has same one (x ∷ xs) found = (
  fold_keeps same (same x) xs (with_sight same found x) (sight_new same one found x),
  fold_has same one xs
      (with_sight same found x),
)

-- a table has all sights that it was made from
pub table_has : {A : Type 0} (same : A → A → Bool) → ((x : A) → same x x ≡ true) → (xs : List A)
    → Has same (table_of same xs) xs
table_has same one xs = fold_has same one xs []
