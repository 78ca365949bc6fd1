-- Where lines end.
use Rattle.std.proofs.Common.{◌≡◌, ℕ, ◌+◌, ◌<◌, subst, Bool, true, false, cond, not, nat_lt, List, [], ◌∷◌, ◌++◌}
use Rattle.std.proofs.Common.{◌==◌, Some, None, length, take, drop, get_or, refl, sym, ap, ◌∙◌, arith, ltb-true}
use Rattle.std.proofs.Common.{eqb-true}
use Rattle.std.proofs.lemmas.List.Sums.{take_while-cons, split_at_first, passes_at_first}
use Rattle.std.specs.List.{position, position_or_len, prefix_len, take_while, before_first, after_first}
use Rattle.om_shell.specs.Lines.{HasNoLineEnd}

some_case : (b : Bool) (n m : ℕ) → Some n ≡ cond b (Some m) None → (n ≡ m) × (b ≡ true)
some_case true n m e = (cc, refl)
some_case false n m e = cc

pub position_some : (p : ℕ → Bool) (xs : List ℕ) (n : ℕ) → Some n ≡ position p xs → (n ≡ position_or_len p xs)
    × (n < length xs)
position_some p xs n e =
    let found = some_case (nat_lt (position_or_len p xs) (length xs)) n (position_or_len p xs) e in
    let below = ltb-true _ _ found.1 in
    (found.0, omega arith)

unended_cons : (q : ℕ → Bool) (x : ℕ) (ys : List ℕ) (b : Bool) → q x ≡ b → prefix_len q ys ≡ length ys
    → prefix_len q (cond b (x ∷ ys) []) ≡ length (cond b (x ∷ ys) [])
unended_cons q x ys true e h =
    let first : prefix_len q (x ∷ ys) ≡ 1 + prefix_len q ys = ap (λ c. cond c (1 + prefix_len q ys) 0) e in
    omega (arith, first, h)
unended_cons q x ys false e h = refl

-- the bytes that stand before the first that fails all pass
unended : (q : ℕ → Bool) (xs : List ℕ) → prefix_len q (take_while q xs) ≡ length (take_while q xs)
unended q [] = refl
unended q (x ∷ xs) =
    let P : List ℕ → Type 0 = λ ys. prefix_len q ys ≡ length ys in
    subst P (sym (take_while-cons q x xs)) (unended_cons q x (take_while q xs) (q x) refl (unended q xs))

cut : (xs : List ℕ) → position_or_len (λ byte. byte == 10) xs < length xs
    → xs ≡ before_first (λ byte. byte == 10) xs ++ 10 ∷ after_first (λ byte. byte == 10) xs
cut xs below =
    let end : get_or xs (position_or_len (λ byte. byte == 10) xs) 0 ≡ 10 = eqb-true _ _
    (passes_at_first (λ byte. byte == 10) xs 0 below) in
    split_at_first (λ byte. byte == 10) xs 0 below
    ∙ ap (λ b. before_first (λ byte. byte == 10) xs ++ b ∷ after_first (λ byte. byte == 10) xs) end

-- the bytes before the first line feed end no line, and it and the rest stand behind them
pub cut_at_end : (xs : List ℕ) (n : ℕ) → Some n ≡ position (λ byte. byte == 10) xs
    → HasNoLineEnd (take n xs) × (xs ≡ take n xs ++ 10 ∷ drop (n + 1) xs)
cut_at_end xs n e =
    let found = position_some (λ byte. byte == 10) xs n e in
    let P : ℕ → Type 0 = λ k. HasNoLineEnd (take k xs) × (xs ≡ take k xs ++ 10 ∷ drop (k + 1) xs) in
    let Q : ℕ → Type 0 = λ k. k < length xs in
    subst P (sym found.0) (unended (λ byte. not (byte == 10)) xs, cut xs (subst Q found.0 found.1))
