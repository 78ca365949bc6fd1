-- Numbers of lists of words: matter of proofs, for whoever keeps numbers.
use Rattle.std.proofs.Common.{◌≡◌, refl, sym, ◌∙◌, ap, ℕ, suc, ◌+◌, ◌<◌, Bool, true, false, cond, nat_eq}
use Rattle.std.proofs.Common.{Option, None, Some, List, [], ◌∷◌, ◌++◌, length, add-zero, arith, slice_get}
use Rattle.std.specs.Prelude.{option_map}
use Rattle.std.specs.Cmp.Lexicographic.{pointwise}
use Rattle.om_foot.specs.Below.{same_list}
use Rattle.lab_explore_rows.specs.WordTables.{number_of}

pub same_words : (xs ys : List ℕ) → pointwise nat_eq xs ys ≡ true → xs ≡ ys
same_words xs ys h = (same_list xs ys).0 h

pub own_words : (xs : List ℕ) → pointwise nat_eq xs xs ≡ true
own_words xs = (same_list xs xs).1 refl

-- what stands at a number
pub at_number : (lists : List (List ℕ)) (words : List ℕ) (n : ℕ) → number_of lists words ≡ Some n
    → slice_get lists n ≡ Some words
at_number [] words n h = cc
at_number (list ∷ lists) words n h =
    go (pointwise nat_eq words list) refl (number_of lists words) (λ k e. at_number lists words k e) h
  where
    go : (b : Bool) → pointwise nat_eq words list ≡ b → (o : Option ℕ)
        → ((k : ℕ) → o ≡ Some k → slice_get lists k ≡ Some words)
        → cond b (Some 0) (option_map suc o) ≡ Some n → slice_get (list ∷ lists) n ≡ Some words
    go true e o rest g =
        let is : n ≡ 0 = cc in
        ap (λ k. slice_get (list ∷ lists) k) is ∙ ap Some (sym (same_words words list e))
    go false e None rest g = cc
    go false e (Some k) rest g =
        let is : n ≡ suc k = cc in ap (λ j. slice_get (list ∷ lists) j) is ∙ rest k refl

-- two lists of one number are one list
pub one_list : (lists : List (List ℕ)) (a b : List ℕ) (n : ℕ) → number_of lists a ≡ Some n → number_of lists b ≡ Some n
    → a ≡ b
one_list lists a b n g h =
    let first = at_number lists a n g in
    let second = at_number lists b n h in
    cc

pub number_below : (lists : List (List ℕ)) (words : List ℕ) (n : ℕ) → number_of lists words ≡ Some n → n < length lists
number_below [] words n h = cc
number_below (list ∷ lists) words n h =
    go (pointwise nat_eq words list) (number_of lists words) (λ k e. number_below lists words k e) h
  where
    go : (b : Bool) → (o : Option ℕ) → ((k : ℕ) → o ≡ Some k → k < length lists)
        → cond b (Some 0) (option_map suc o) ≡ Some n → n < suc (length lists)
    go true o rest g = let is : n ≡ 0 = cc in omega arith
    go false None rest g = cc
    go false (Some k) rest g = let is : n ≡ suc k = cc in let less = rest k refl in omega arith

-- lists that come behind

pub number_before : (xs ys : List (List ℕ)) (words : List ℕ) (n : ℕ) → number_of xs words ≡ Some n
    → number_of (xs ++ ys) words ≡ Some n
number_before [] ys words n h = cc
number_before (x ∷ xs) ys words n h =
    go (pointwise nat_eq words x) (number_of xs words) (λ k e. number_before xs ys words k e) h
  where
    go : (b : Bool) → (o : Option ℕ) → ((k : ℕ) → o ≡ Some k → number_of (xs ++ ys) words ≡ Some k)
        → cond b (Some 0) (option_map suc o) ≡ Some n
        → cond b (Some 0) (option_map suc (number_of (xs ++ ys) words)) ≡ Some n
    go true o rest g = g
    go false None rest g = cc
    go false (Some k) rest g = ap (option_map suc) (rest k refl) ∙ g

pub number_behind : (xs ys : List (List ℕ)) (words : List ℕ) → number_of xs words ≡ None
    → number_of (xs ++ ys) words ≡ option_map (λ n. length xs + n) (number_of ys words)
number_behind [] ys words h = go (number_of ys words)
  where
    go : (o : Option ℕ) → o ≡ option_map (λ n. 0 + n) o
    go None = refl
    go (Some n) = let is : n ≡ 0 + n = omega arith in ap Some is
number_behind (x ∷ xs) ys words h =
    go (pointwise nat_eq words x) (number_of xs words) (λ e. number_behind xs ys words e) h
  where
    more : (o : Option ℕ) → option_map suc (option_map (λ n. length xs + n) o) ≡ option_map (λ n. suc (length xs) + n) o
    more None = refl
    more (Some n) = let is : suc (length xs + n) ≡ suc (length xs) + n = omega arith in ap Some is

    go : (b : Bool) → (o : Option ℕ)
        → (o ≡ None → number_of (xs ++ ys) words ≡ option_map (λ n. length xs + n) (number_of ys words))
        → cond b (Some 0) (option_map suc o) ≡ None
        → cond b (Some 0) (option_map suc (number_of (xs ++ ys) words))
        ≡ option_map (λ n. suc (length xs) + n) (number_of ys words)
    go true o rest g = cc
    go false None rest g = ap (option_map suc) (rest refl) ∙ more (number_of ys words)
    go false (Some k) rest g = cc

pub number_pushed : (xs : List (List ℕ)) (words : List ℕ) → number_of xs words ≡ None
    → number_of (xs ++ words ∷ []) words ≡ Some (length xs)
number_pushed xs words none =
    number_behind xs (words ∷ []) words none
    ∙ ap (λ b. option_map (λ n. length xs + n) (cond b (Some 0) None)) (own_words words)
    ∙ ap Some (add-zero (length xs))
