-- A table by first sight has all that it was made from, each once.
use Rattle.std.proofs.Common.{◌≡◌, ℕ, zero, suc, ◌+◌, Bool, true, false, List, [], ◌∷◌, ◌++◌, Some, refl, sym, ap, ◌∙◌}
use Rattle.std.proofs.Common.{arith}
use Rattle.std.specs.Prelude.{slice_get, fold, nat_eq, ◌||◌, if◌then◌else◌}
use Rattle.std.specs.List.{list_any}
use Rattle.std.proofs.lemmas.Bool.{eqb-true, eq-eqb}
use Rattle.std.proofs.lemmas.List.Folds.{list_any-append}
use Rattle.om_lower_rules.specs.Tables.{with_sight, table_of, number_in}

-- the number of what is in a table leads to it
pub number_found : {A : Type 0} (same : A → A → Bool) (decides : (x y : A) → same x y ≡ true → x ≡ y) (x : A) (xs : List A)
    → list_any (same x) xs ≡ true → slice_get xs (number_in (same x) xs) ≡ Some x
number_found {A} same decides x [] e = absurd cc
number_found {A} same decides x (y ∷ ys) e =
    first (λ more. number_found same decides x ys more) (same x y) refl e
  where
    first : (list_any (same x) ys ≡ true → slice_get ys (number_in (same x) ys) ≡ Some x)
        → (b : Bool) → same x y ≡ b → (b || list_any (same x) ys) ≡ true
        → slice_get (y ∷ ys) (if b then 0 else number_in (same x) ys + 1) ≡ Some x
    first behind true is e = ap (λ z. Some z) (sym (decides x y is))
    first behind false is e =
        let next : number_in (same x) ys + 1 ≡ suc (number_in (same x) ys) = omega arith in
        ap (λ z. slice_get (y ∷ ys) z) next ∙ behind e

-- what stands at a place of a list is in it
found_at : (xs : List ℕ) (k x : ℕ) → slice_get xs k ≡ Some x → list_any (nat_eq x) xs ≡ true
found_at [] k x e = absurd cc
found_at (y ∷ ys) zero x e =
    let same : y ≡ x = cc e in ap (λ b. b || list_any (nat_eq x) ys) (eq-eqb x y (sym same))
found_at (y ∷ ys) (suc k) x e = either (nat_eq x y) (found_at ys k x e)
  where
    either : (b : Bool) → list_any (nat_eq x) ys ≡ true → (b || list_any (nat_eq x) ys) ≡ true
    either true e = refl
    either false e = e

-- ---- all that it was made from

abbrev pub Has : List ℕ → List ℕ → Type 0
Has table [] = Unit {0}
Has table (x ∷ xs) = (list_any (nat_eq x) table ≡ true) × Has table xs

pub has_front : (table xs ys : List ℕ) → Has table (xs ++ ys) → Has table xs
has_front table [] ys h = tt
has_front table (x ∷ xs) ys h = (h.0, has_front table xs ys h.1)

pub has_back : (table xs ys : List ℕ) → Has table (xs ++ ys) → Has table ys
has_back table [] ys h = h
has_back table (x ∷ xs) ys h = has_back table xs ys h.1

pub has_both : (table xs ys : List ℕ) → Has table xs → Has table ys → Has table (xs ++ ys)
has_both table [] ys h k = k
has_both table (x ∷ xs) ys h k = (h.0, has_both table xs ys h.1 k)

sight_keeps : {A : Type 0} (same : A → A → Bool) (is : A → Bool) (found : List A) (x : A) → list_any is found ≡ true
    → list_any is (with_sight same found x) ≡ true
sight_keeps {A} same is found x e = kept (list_any (same x) found)
  where
    kept : (b : Bool) → list_any is (if b then found else found ++ x ∷ []) ≡ true
    kept true = e
    kept false = list_any-append is found (x ∷ []) ∙ ap (λ z. z || list_any is (x ∷ [])) e

pub sight_new : {A : Type 0} (same : A → A → Bool) (found : List A) (x : A) → same x x ≡ true
    → list_any (same x) (with_sight same found x) ≡ true
sight_new {A} same found x itself = new (list_any (same x) found) refl
  where
    new : (b : Bool) → list_any (same x) found ≡ b
        → list_any (same x) (if b then found else found ++ x ∷ []) ≡ true
    new true e = e
    new false e = list_any-append (same x) found (x ∷ []) ∙ ap (λ z. z || (same x x || false)) e
        ∙ ap (λ z. z || false) itself

pub fold_keeps : {A : Type 0} (same : A → A → Bool) (is : A → Bool) (xs found : List A) → list_any is found ≡ true
    → list_any is (fold (with_sight same) found xs) ≡ true
fold_keeps {A} same is [] found e = e
fold_keeps {A} same is (x ∷ xs) found e =
    fold_keeps same is xs (with_sight same found x) (sight_keeps same is found x e)

fold_has : (xs found : List ℕ) → Has (fold (with_sight nat_eq) found xs) xs
fold_has [] found = tt
fold_has (x ∷ xs) found = (
  fold_keeps nat_eq (nat_eq x) xs (with_sight nat_eq found x) (sight_new nat_eq found x (eq-eqb x x refl)),
  fold_has xs (with_sight nat_eq found x),
)

pub table_has : (xs : List ℕ) → Has (table_of nat_eq xs) xs
table_has xs = fold_has xs []

-- ---- each once

abbrev pub Distinct : List ℕ → Type 0
Distinct [] = Unit {0}
Distinct (x ∷ xs) = (list_any (nat_eq x) xs ≡ false) × Distinct xs

differs : (x y : ℕ) → nat_eq x y ≡ false → nat_eq y x ≡ false
differs x y e = by (nat_eq y x) refl
  where
    by : (b : Bool) → nat_eq y x ≡ b → b ≡ false
    by true same = let no : true ≡ false = sym (eq-eqb x y (sym (eqb-true y x same))) ∙ e in cc
    by false same = refl

pub neither : (a b : Bool) → (a || b) ≡ false → (a ≡ false) × (b ≡ false)
neither true b e = absurd cc
neither false b e = (refl, e)

-- one that is not there yet is behind them
pushed_distinct : (xs : List ℕ) (x : ℕ) → list_any (nat_eq x) xs ≡ false → Distinct xs → Distinct (xs ++ x ∷ [])
pushed_distinct [] x e h = (refl, tt)
pushed_distinct (y ∷ ys) x e h =
    let apart = neither (nat_eq x y) (list_any (nat_eq x) ys) e in (
      list_any-append (nat_eq y) ys (x ∷ []) ∙ ap (λ z. z || (nat_eq y x || false)) h.0
          ∙ ap (λ z. z || false) (differs x y apart.0),
      pushed_distinct ys x apart.1 h.1,
    )

sight_distinct : (found : List ℕ) (x : ℕ) → Distinct found → Distinct (with_sight nat_eq found x)
sight_distinct found x h = new (list_any (nat_eq x) found) refl
  where
    new : (b : Bool) → list_any (nat_eq x) found ≡ b → Distinct (if b then found else found ++ x ∷ [])
    new true e = h
    new false e = pushed_distinct found x e h

fold_distinct : (xs found : List ℕ) → Distinct found → Distinct (fold (with_sight nat_eq) found xs)
fold_distinct [] found h = h
fold_distinct (x ∷ xs) found h = fold_distinct xs (with_sight nat_eq found x) (sight_distinct found x h)

pub table_distinct : (xs : List ℕ) → Distinct (table_of nat_eq xs)
table_distinct xs = fold_distinct xs [] tt

-- what stands first does not stand behind that too
stands_twice : (y x : ℕ) (ys : List ℕ) (j : ℕ) → list_any (nat_eq y) ys ≡ false → Some y ≡ Some x
    → slice_get ys j ≡ Some x → ⊥
stands_twice y x ys j h e g =
    let same : x ≡ y = cc e in
    let no : true ≡ false = sym (found_at ys j x g) ∙ ap (λ z. list_any (nat_eq z) ys) same ∙ h in cc

-- what stands at two places is two things
pub places_apart : (xs : List ℕ) (i j x : ℕ) → Distinct xs → slice_get xs i ≡ Some x → slice_get xs j ≡ Some x → i ≡ j
places_apart [] i j x h e g = absurd cc
places_apart (y ∷ ys) zero zero x h e g = refl
places_apart (y ∷ ys) zero (suc j) x h e g = absurd (stands_twice y x ys j h.0 e g)
places_apart (y ∷ ys) (suc i) zero x h e g = absurd (stands_twice y x ys i h.0 g e)
places_apart (y ∷ ys) (suc i) (suc j) x h e g = ap (λ n. suc n) (places_apart ys i j x h.1 e g)
