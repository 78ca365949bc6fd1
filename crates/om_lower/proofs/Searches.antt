-- Searches and parts of lists.
use Rattle.std.proofs.Common.{◌≡◌, ℕ, zero, suc, ◌+◌, ◌<◌, Bool, true, false, cond, ◌||◌, List, [], ◌∷◌, length, map}
use Rattle.std.proofs.Common.{get_or, refl, ◌∙◌, ap, arith, Some, None, not}
use Rattle.std.proofs.lemmas.Bool.Decides.{nat_tests}
use Rattle.std.specs.Prelude.{position, nat_lt, Any}
use Rattle.std.specs.List.{list_any, position_or_len, prefix_len}

pub list_any-map : {X Y : Type 0} (p : Y → Bool) (g : X → Y) (xs : List X)
    → list_any p (map g xs) ≡ list_any (λ x. p (g x)) xs
list_any-map p g [] = refl
list_any-map p g (x ∷ xs) = ap (λ b. p (g x) || b) (list_any-map p g xs)

prefix_len-map : {X Y : Type 0} (p : Y → Bool) (g : X → Y) (xs : List X)
    → prefix_len p (map g xs) ≡ prefix_len (λ x. p (g x)) xs
prefix_len-map p g [] = refl
prefix_len-map p g (x ∷ xs) = ap (λ n. cond (p (g x)) (1 + n) 0) (prefix_len-map p g xs)

pub length-mapped : {X Y : Type 0} (g : X → Y) (xs : List X) → length (map g xs) ≡ length xs
length-mapped g [] = refl
length-mapped g (x ∷ xs) = ap suc (length-mapped g xs)

pub position_map : {X Y : Type 0} (p : Y → Bool) (g : X → Y) (xs : List X)
    → position p (map g xs) ≡ position (λ x. p (g x)) xs
position_map p g xs =
    ap (λ n. cond (nat_lt n (length (map g xs))) (Some n) None) (prefix_len-map (λ y. not (p y)) g xs)
    ∙ ap (λ m. cond (nat_lt (position_or_len (λ x. p (g x)) xs) m)
    (Some (position_or_len (λ x. p (g x)) xs)) None) (length-mapped g xs)

-- where an element passes, there is a first one
not_all : {X : Type 0} (p : X → Bool) (xs : List X) (k : ℕ) (x : X) → k < length xs → get_or xs k x ≡ x
    → p x ≡ true → prefix_len (λ y. not (p y)) xs < length xs
not_all p [] k x h e t = absurd (omega arith)
not_all p (y ∷ xs) zero x h e t =
    let f : p y ≡ true = ap p e ∙ t in
    let g : cond (not (p y)) (1 + prefix_len (λ z. not (p z)) xs) 0 ≡ 0 =
    ap (λ b. cond (not b) (1 + prefix_len (λ z. not (p z)) xs) 0) f in
    omega (arith, g)
not_all p (y ∷ xs) (suc k) x h e t =
    at_most (not (p y)) (prefix_len (λ z. not (p z)) xs) (length xs) (not_all p xs k x (omega arith) e t)
  where
    at_most : (b : Bool) (m n : ℕ) → m < n → cond b (1 + m) 0 < suc n
    at_most true m n h = omega arith
    at_most false m n h = omega arith

pub position_none : {X : Type 0} (p : X → Bool) (xs : List X) → Any (λ x. p x ≡ true) xs
    → position p xs ≡ None → ⊥
position_none p xs (k, x, h, e, t) none =
    let lt : nat_lt (position_or_len p xs) (length xs) ≡ true =
    less (position_or_len p xs) (length xs) (not_all p xs k x h e t) in
    let some : position p xs ≡ Some (position_or_len p xs) =
    ap (λ b. cond b (Some (position_or_len p xs)) None) lt in cc
  where
    less : (m n : ℕ) → m < n → nat_lt m n ≡ true
    less m n h = grind (arith, nat_tests)

-- the first element that passes is in the list
pub position-within : {X : Type 0} (p : X → Bool) (xs : List X) (i : ℕ) → position p xs ≡ Some i
    → i < length xs
position-within p xs i e =
    from (position_or_len p xs) (length xs) (nat_lt (position_or_len p xs) (length xs)) refl e
  where
    from : (n len : ℕ) (b : Bool) → nat_lt n len ≡ b → cond b (Some n) None ≡ Some i → i < len
    from n len true t f = let same : n ≡ i = cc in omega (arith, less n len t, same)
      where
        less : (m n : ℕ) → nat_lt m n ≡ true → m < n
        less m n h = grind (arith, nat_tests)
    from n len false t f = cc
