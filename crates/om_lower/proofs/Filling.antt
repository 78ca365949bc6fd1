-- Lists are put at their numbers, one after the other.
use Rattle.std.proofs.Common.{◌≡◌, ℕ, zero, suc, ◌+◌, ◌<◌, ◌≤◌, ◌≢◌, List, [], ◌∷◌, ◌++◌, length, Some, get_or, set}
use Rattle.std.proofs.Common.{refl, sym, ap, ◌∙◌, subst, ⊎_elim, arith}
use Rattle.std.specs.Prelude.{map, slice_get, nat_eq, if◌then◌else◌}
use Rattle.std.specs.List.{Contains}
use Rattle.std.proofs.lemmas.Bool.Decides.{nat_tests}
use Rattle.std.proofs.lemmas.List.{append_assoc, append-nil, length-set, map-append}
use Rattle.std.proofs.lemmas.List.Elements.{Contains-push_cases}
use Rattle.om_lower_emit.specs.declared.draft.PickList.{PickList}
use Rattle.om_lower_emit.specs.Settled.{ListsStand, number_of}
use Rattle.om_lower.specs.Once.{count, below, IsEachOnce}
use Rattle.om_lower.proofs.Counting.{count-append}

-- what is done, and what is left to do
pub record Filled (all : List PickList) (n : ℕ) (done left : List PickList) (picks : List (List ℕ)) : Type 0 where
  pub split : done ++ left ≡ all
  pub long : length picks ≡ n
  pub stand : ListsStand done picks

get_put : {A : Type 0} (xs : List A) (i : ℕ) (v : A) → i < length xs → slice_get (set xs i v) i ≡ Some v
get_put [] i v h = absurd (omega arith)
get_put (x ∷ xs) zero v h = refl
get_put (x ∷ xs) (suc i) v h = get_put xs i v (omega arith)

get_other : {A : Type 0} (xs : List A) (i j : ℕ) (v : A) → j ≢ i → slice_get (set xs i v) j ≡ slice_get xs j
get_other [] i j v h = refl
get_other (x ∷ xs) zero zero v h = absurd (h refl)
get_other (x ∷ xs) zero (suc j) v h = refl
get_other (x ∷ xs) (suc i) zero v h = refl
get_other (x ∷ xs) (suc i) (suc j) v h = get_other xs i j v (λ e. h (ap suc e))

first : (k n m : ℕ) → k ≡ n → 1 ≤ (if nat_eq k n then 1 else 0) + m
first k n m e = grind (arith, nat_tests)

below-most : (k n : ℕ) → below k n ≤ 1
below-most k n = grind (arith, nat_tests)

below-there : (k n : ℕ) → 1 ≤ below k n → k < n
below-there k n h = grind (arith, nat_tests)

contained : (xs : List PickList) (x : PickList) (k : ℕ) → k < length xs → get_or xs k x ≡ x
    → 1 ≤ count x.number (map number_of xs)
contained [] x k h e = absurd (omega arith)
contained (y ∷ xs) x zero h e =
    first x.number y.number (count x.number (map number_of xs)) (ap number_of (sym e))
contained (y ∷ xs) x (suc k) h e =
    let rest : 1 ≤ count x.number (map number_of xs) = contained xs x k (omega arith) e in
    omega arith

pub filled_first : (all items : List PickList) (n : ℕ) (picks : List (List ℕ)) → items ≡ all → length picks ≡ n
    → Filled all n [] items picks
filled_first all items n picks is long = record {
  split = is;
  long = long;
  stand = λ list h. let k : h.0 < 0 = h.1 in absurd (omega arith);
}

module _ (all : List PickList) (n : ℕ) (once : IsEachOnce n (map number_of all)) where
  module _ (done items left : List PickList) (x : PickList) (picks : List (List ℕ)) (h : Filled all n done items picks)
      (next : items ≡ x ∷ left) where
    total : (k : ℕ)
        → count k (map number_of done) + count k (x.number ∷ map number_of left) ≡ below k n
    total k =
        sym (count-append k (map number_of done) (x.number ∷ map number_of left))
        ∙ ap (λ z. count k z) (sym (map-append number_of done (x ∷ left)))
        ∙ ap (λ z. count k (map number_of z)) (ap (λ z. done ++ z) (sym next) ∙ h.split)
        ∙ once k

    pub number_below : x.number < length picks
    number_below =
        let here = first x.number x.number (count x.number (map number_of left)) refl in
        let known = below-there x.number n (omega (arith, total x.number, here)) in
        omega (arith, known, h.long)

    other_number : (list : PickList) → Contains done list → list.number ≢ x.number
    other_number list there e =
        let here = first list.number x.number (count list.number (map number_of left)) e in
        let before = contained done list there.0 there.1 there.2 in
        omega (arith, total list.number, here, before, below-most list.number n)

    stands : (list : PickList) → Contains (done ++ x ∷ []) list
        → slice_get (set picks x.number x.places) list.number ≡ Some list.places
    stands list there = ⊎_elim
        (λ before. get_other picks x.number list.number x.places (other_number list before) ∙ h.stand list before)
        (λ is. subst (λ z. slice_get (set picks x.number x.places) z.number ≡ Some z.places) is
        (get_put picks x.number x.places number_below))
        (Contains-push_cases done x list there)

    pub filled_next : (new : List (List ℕ)) → new ≡ set picks x.number x.places → Filled all n (done ++ x ∷ []) left new
    filled_next new e = record {
      split = append_assoc done (x ∷ []) left ∙ ap (λ z. done ++ z) (sym next) ∙ h.split;
      long = ap (λ z. length z) e ∙ length-set picks x.number x.places ∙ h.long;
      stand = subst (ListsStand (done ++ x ∷ [])) (sym e) stands;
    }

none_left : (items : List PickList) → length items ≡ 0 → items ≡ []
none_left [] e = refl
none_left (x ∷ items) e = absurd (omega (arith, e))

pub filled_last : (all : List PickList) (n : ℕ) (done items : List PickList) (picks : List (List ℕ))
    → Filled all n done items picks → length items ≡ 0 → (new : List (List ℕ)) → new ≡ picks → ListsStand all new
filled_last all n done items picks h none new e =
    let whole : done ≡ all =
    sym (append-nil done) ∙ ap (λ z. done ++ z) (sym (none_left items none)) ∙ h.split in
    subst (ListsStand all) (sym e) (subst (λ z. ListsStand z picks) whole h.stand)
