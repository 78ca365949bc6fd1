-- Rows without the zeros at their ends.
use Rattle.std.proofs.Common.{◌≡◌, refl, sym, ◌∙◌, ap, ℕ, zero, suc, ◌≤◌, List, [], ◌∷◌, take, get_or}
use Rattle.std.proofs.Common.{arith}
use Rattle.lab_explore_rows.specs.Rows.{cut, cut_before}

pub at_cut : (xs : List ℕ) (i : ℕ) → get_or (cut xs) i 0 ≡ get_or xs i 0
at_cut [] i = refl
at_cut (x ∷ xs) i = go x (cut xs) (at_cut xs) i
  where
    go : (y : ℕ) (ys : List ℕ) → ((j : ℕ) → get_or ys j 0 ≡ get_or xs j 0) → (k : ℕ)
        → get_or (cut_before y ys) k 0 ≡ get_or (y ∷ xs) k 0
    go zero [] rest zero = refl
    go zero [] rest (suc k) = rest k
    go zero (z ∷ zs) rest zero = refl
    go zero (z ∷ zs) rest (suc k) = rest k
    go (suc n) ys rest zero = refl
    go (suc n) ys rest (suc k) = rest k

only_zeros : (xs : List ℕ) → ((i : ℕ) → get_or xs i 0 ≡ 0) → cut xs ≡ []
only_zeros [] h = refl
only_zeros (x ∷ xs) h =
    let first : x ≡ 0 = h zero in
    let rest : cut xs ≡ [] = only_zeros xs (λ i. h (suc i)) in
    λ i. cut_before (first i) (rest i)

-- rows that agree are cut to one
pub one_cut : (xs ys : List ℕ) → ((i : ℕ) → get_or xs i 0 ≡ get_or ys i 0) → cut xs ≡ cut ys
one_cut [] ys h = sym (only_zeros ys (λ i. sym (h i)))
one_cut (x ∷ xs) [] h = only_zeros (x ∷ xs) h
one_cut (x ∷ xs) (y ∷ ys) h =
    let first : x ≡ y = h zero in
    let rest : cut xs ≡ cut ys = one_cut xs ys (λ i. h (suc i)) in
    λ i. cut_before (first i) (rest i)

-- rows that are cut to one agree
pub agree : (xs ys : List ℕ) → cut xs ≡ cut ys → (i : ℕ) → get_or xs i 0 ≡ get_or ys i 0
agree xs ys h i = sym (at_cut xs i) ∙ ap (λ zs. get_or zs i 0) h ∙ at_cut ys i

first_stays : (x : ℕ) (xs : List ℕ) → (x ≡ 0 → xs ≡ [] → ⊥) → cut_before x xs ≡ x ∷ xs
first_stays zero [] h = absurd (h refl refl)
first_stays zero (y ∷ ys) h = refl
first_stays (suc n) xs h = refl

-- a row of which the rest is zeros
pub cut_taken : (xs : List ℕ) (n : ℕ) → ((i : ℕ) → n ≤ i → get_or xs i 0 ≡ 0)
    → ((m : ℕ) → n ≡ suc m → get_or xs m 0 ≡ 0 → ⊥) → take n xs ≡ cut xs
cut_taken [] zero rest last = refl
cut_taken [] (suc m) rest last = absurd (last m refl refl)
cut_taken (x ∷ xs) zero rest last = sym (only_zeros (x ∷ xs) (λ i. rest i (omega arith)))
cut_taken (x ∷ xs) (suc zero) rest last =
    let tail : cut xs ≡ [] = only_zeros xs (λ i. rest (suc i) (omega arith)) in
    sym (first_stays x (cut xs) (λ e none. last zero refl e) ∙ (λ i. x ∷ tail i))
cut_taken (x ∷ xs) (suc (suc m)) rest last =
    let tail : take (suc m) xs ≡ cut xs =
    cut_taken xs (suc m) (λ i h. rest (suc i) (omega (arith, h))) (λ k e h. last (suc k) (ap suc e) h) in
    (λ i. x ∷ tail i)
    ∙ sym (first_stays x (cut xs)
    (λ e none. last (suc m) refl (sym (at_cut xs m) ∙ ap (λ zs. get_or zs m 0) none)))
