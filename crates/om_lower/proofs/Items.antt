-- The item of a list where a loop stands.
use Rattle.std.proofs.Common.{◌≡◌, ◌<◌, ◌≤◌, ℕ, zero, suc, ◌+◌, List, [], ◌∷◌, ◌++◌, Some, IfSome, All, Any, length}
use Rattle.std.proofs.Common.{map, take, slice_get, get_or, refl, sym, ap, subst, ◌∙◌, arith}
use Rattle.std.proofs.lemmas.List.{length-map}
use Rattle.std.proofs.lemmas.List.Elements.{All-nil, All-cons, All-head, All-tail}
use Rattle.std.specs.List.{AllZip}

pub item_get : {A : Type 0} (xs : List A) (k : ℕ) (x : A) → k < length xs → x ≡ get_or xs k x
    → slice_get xs k ≡ Some x
item_get [] k x lt is = let none : ⊥ = omega (arith, lt) in absurd none
item_get (y ∷ xs) zero x lt is = ap (λ z. Some z) (sym is)
item_get (y ∷ xs) (suc k) x lt is =
    item_get xs k x (let below : k < length xs = omega (arith, lt) in below) is

pub item_at : {A B : Type 0} (view : A → B) (xs : List A) (k : ℕ) (x : A) → k < length xs → x ≡ get_or xs k x
    → slice_get (map view xs) k ≡ Some (view x)
item_at view [] k x lt is = let none : ⊥ = omega (arith, lt) in absurd none
item_at view (y ∷ xs) zero x lt is = ap (λ z. Some (view z)) (sym is)
item_at view (y ∷ xs) (suc k) x lt is =
    item_at view xs k x (let below : k < length xs = omega (arith, lt) in below) is

-- what holds of the first k items holds of one more
all_next : {A : Type 0} (P : A → Type 0) (xs : List A) (k : ℕ) (x : A) → slice_get xs k ≡ Some x
    → All P (take k xs) → P x → All P (take (suc k) xs)
all_next P [] k x at all p = cc
all_next P (y ∷ xs) zero x at all p = let same : y ≡ x = cc in
    All-cons P y [] (subst P (sym same) p) (All-nil P)
all_next P (y ∷ xs) (suc k) x at all p =
    All-cons P y (take (suc k) xs) (All-head P y (take k xs) all)
    (all_next P xs k x at (All-tail P y (take k xs) all) p)

pub all_take_next : {A : Type 0} (P : A → Type 0) (xs : List A) (k : ℕ) (x : A) → k < length xs
    → x ≡ get_or xs k x → All P (take k xs) → P x → All P (take (k + 1) xs)
all_take_next P xs k x lt is all p =
    let next : suc k ≡ k + 1 = omega arith in
    subst (λ n. All P (take n xs)) next (all_next P xs k x (item_get xs k x lt is) all p)

-- a list that is as long as its first items
pub take_pushed : {A : Type 0} (xs : List A) (k : ℕ) (x : A) → slice_get xs k ≡ Some x
    → take (suc k) xs ≡ take k xs ++ x ∷ []
take_pushed [] k x at = cc
take_pushed (y ∷ xs) zero x at = let same : y ≡ x = cc in ap (λ z. z ∷ []) same
take_pushed (y ∷ xs) (suc k) x at = ap (λ rest. y ∷ rest) (take_pushed xs k x at)

-- one more of two lists, side by side
pub zip_next : {A B : Type 0} (R : A → B → Type 0) (xs : List A) (ys : List B) (k : ℕ) (x : A) (y : B)
    → slice_get xs k ≡ Some x
    → AllZip R (take k xs) ys → R x y → AllZip R (take (suc k) xs) (ys ++ y ∷ [])
zip_next R [] ys k x y at zip r = cc
zip_next R (z ∷ xs) [] zero x y at zip r = let same : z ≡ x = cc in (subst (λ w. R w y) (sym same) r, tt)
zip_next R (z ∷ xs) (first ∷ ys) zero x y at zip r = absurd zip
zip_next R (z ∷ xs) [] (suc k) x y at zip r = absurd zip
zip_next R (z ∷ xs) (first ∷ ys) (suc k) x y at zip r = (zip.0, zip_next R xs ys k x y at zip.1 r)

-- the first k of them are all, where there are no more
pub all_taken : {A : Type 0} (P : A → Type 0) (xs : List A) (k : ℕ) → length xs ≤ k → All P (take k xs)
    → All P xs
all_taken P [] k le all = All-nil P
all_taken P (x ∷ xs) zero le all = let none : ⊥ = omega (arith, le) in absurd none
all_taken P (x ∷ xs) (suc k) le all =
    All-cons P x xs (All-head P x (take k xs) all)
    (all_taken P xs k (let below : length xs ≤ k = omega (arith, le) in below)
    (All-tail P x (take k xs) all))

-- a list to which the next item is added
pub pushed_in : {A : Type 0} (xs ys new : List A) (k : ℕ) (x : A) → new ≡ ys ++ x ∷ [] → ys ≡ take k xs
    → slice_get xs k ≡ Some x → new ≡ take (k + 1) xs
pushed_in xs ys new k x added same at =
    let next : suc k ≡ k + 1 = omega arith in
    added ∙ ap (λ all. all ++ x ∷ []) same ∙ sym (take_pushed xs k x at) ∙ ap (λ n. take n xs) next

item_there : {A : Type 0} (xs : List A) (k : ℕ) → k < length xs → (x : A) × (slice_get xs k ≡ Some x)
item_there [] k lt = let none : ⊥ = omega (arith, lt) in absurd none
item_there (x ∷ xs) zero lt = (x, refl)
item_there (x ∷ xs) (suc k) lt = item_there xs k (let below : k < length xs = omega (arith, lt) in below)

pub zip_in : {A B : Type 0} (R : A → B → Type 0) (xs : List A) (ys new : List B) (k : ℕ) (y : B)
    → k < length xs → new ≡ ys ++ y ∷ [] → AllZip R (take k xs) ys
    → IfSome (slice_get xs k) (λ x. R x y) → AllZip R (take (k + 1) xs) new
zip_in R xs ys new k y lt added zip r =
    let there = item_there xs k lt in
    let next : suc k ≡ k + 1 = omega arith in
    let with_y = zip_next R xs ys k there.0 y there.1 zip
    (subst (λ found. IfSome found (λ x. R x y)) there.1 r) in
    subst (λ n. AllZip R (take n xs) new) next
    (subst (λ all. AllZip R (take (suc k) xs) all) (sym added) with_y)

-- what holds of all items holds of this one
pub all_at : {A : Type 0} (P : A → Type 0) (xs : List A) (k : ℕ) (x : A) → All P xs
    → slice_get xs k ≡ Some x → P x
all_at P [] k x all at = cc
all_at P (y ∷ xs) zero x all at = let same : y ≡ x = cc in subst P same (All-head P y xs all)
all_at P (y ∷ xs) (suc k) x all at = all_at P xs k x (All-tail P y xs all) at

pub any_at : {A : Type 0} (P : A → Type 0) (xs : List A) (k : ℕ) (x : A) → slice_get xs k ≡ Some x → P x
    → Any P xs
any_at P [] k x at p = cc
any_at P (y ∷ xs) zero x at p =
    let same : y ≡ x = cc in (0, y, omega arith, refl, subst P (sym same) p)
any_at P (y ∷ xs) (suc k) x at p =
    let rest = any_at P xs k x at p in
    let lt = rest.2 in (suc rest.0, rest.1, omega (arith, lt), rest.3, rest.4)

pub all_next_at : {A : Type 0} (P : A → Type 0) (xs : List A) (k : ℕ) (x : A) → slice_get xs k ≡ Some x
    → All P (take k xs) → P x → All P (take (k + 1) xs)
all_next_at P xs k x at all p =
    let next : suc k ≡ k + 1 = omega arith in
    subst (λ n. All P (take n xs)) next (all_next P xs k x at all p)

-- one more of two lists, behind those that stand
pub zip_pushed : {A B : Type 0} (R : A → B → Type 0) (xs : List A) (ys new : List B) (k : ℕ) (x : A) (y : B)
    → slice_get xs k ≡ Some x → new ≡ ys ++ y ∷ [] → AllZip R (take k xs) ys → R x y
    → AllZip R (take (k + 1) xs) new
zip_pushed R xs ys new k x y at added zip r =
    let next : suc k ≡ k + 1 = omega arith in
    subst (λ n. AllZip R (take n xs) new) next
    (subst (λ all. AllZip R (take (suc k) xs) all) (sym added) (zip_next R xs ys k x y at zip r))

-- the first k of them are all, as they are seen
pub all_seen : {A B : Type 0} (P : B → Type 0) (view : A → B) (xs : List A) (k : ℕ) → length xs ≤ k
    → All P (take k (map view xs)) → All P (map view xs)
all_seen P view xs k le all =
    all_taken P (map view xs) k (subst (λ n. n ≤ k) (sym (length-map xs view)) le) all
