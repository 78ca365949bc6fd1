-- Where lines end.
use Rattle.std.proofs.Common.{◌≡◌, ℕ, ◌+◌, ◌-◌, ◌<◌, ◌≤◌, subst, Bool, true, false, cond, not, nat_lt, nat_eq, List}
use Rattle.std.proofs.Common.{◌++◌, ◌==◌, Some, None, length, take, drop, refl, sym, ap, ◌∙◌, arith, length-append}
use Rattle.std.proofs.Common.{length-drop, take-append-drop, eq-eqb}
use Rattle.std.proofs.lemmas.Bool.Decides.{nat_tests}
use Rattle.std.proofs.lemmas.List.Folds.{prefix_len-append}
use Rattle.std.proofs.lemmas.List.Sums.{prefix_len-le-length}
use borrow.Author.Tests.{ltb-true, ltb-false}
use Rattle.std.proofs.lemmas.List.{drop-append-le}
use Rattle.std.proofs.Math.Seq.{take-append_seam}
use Rattle.std.specs.List.{position, position_or_len}
use Rattle.om_shell.specs.Lines.{HasNoLineEnd}

-- behind bytes that have no line end, the first one is as far on as in the rest
pub line_end_after : (front rest : List ℕ) → HasNoLineEnd front
    → position_or_len (λ byte. byte == 10) (front ++ rest) ≡ length front + position_or_len (λ byte. byte == 10) rest
line_end_after front rest none =
    let tested : nat_eq (position_or_len (λ byte. byte == 10) front) (length front) ≡ true = eq-eqb _ _ none in
    prefix_len-append (λ byte. not (byte == 10)) front rest
    ∙ ap (λ b. cond b (length front + position_or_len (λ byte. byte == 10) rest)
    (position_or_len (λ byte. byte == 10) front)) tested

found_after_at : (a n m : ℕ) (b : Bool) → Some n ≡ cond b (Some m) None → Some (a + n) ≡ cond b (Some (a + m)) None
found_after_at a n m true e = let same : n ≡ m = cc in ap (λ k. Some (a + k)) same
found_after_at a n m false e = cc

none_after_at : (a m : ℕ) (b : Bool) → None ≡ cond b (Some m) None → None ≡ cond b (Some (a + m)) None
none_after_at a m true e = cc
none_after_at a m false e = refl

same_test : (a m n : ℕ) → nat_lt (a + m) (a + n) ≡ nat_lt m n
same_test a m n = grind (arith, nat_tests)

position_after : (front rest : List ℕ) → HasNoLineEnd front
    → position (λ byte. byte == 10) (front ++ rest) ≡ cond (nat_lt (position_or_len (λ byte. byte == 10) rest)
    (length rest)) (Some (length front + position_or_len (λ byte. byte == 10) rest)) None
position_after front rest none =
    let at = line_end_after front rest none in
    let long = length-append front rest in
    ap (λ k. cond (nat_lt k (length (front ++ rest))) (Some k) None) at
    ∙ ap (λ n. cond (nat_lt (length front + position_or_len (λ byte. byte == 10) rest) n)
    (Some (length front + position_or_len (λ byte. byte == 10) rest)) None) long
    ∙ ap (λ b. cond b (Some (length front + position_or_len (λ byte. byte == 10) rest)) None)
    (same_test (length front) (position_or_len (λ byte. byte == 10) rest) (length rest))

pub found_after : (bytes : List ℕ) (searched n : ℕ) → searched ≤ length bytes → HasNoLineEnd (take searched bytes)
    → Some n ≡ position (λ byte. byte == 10) (drop searched bytes) → Some (searched + n)
    ≡ position (λ byte. byte == 10) bytes
found_after bytes searched n within none e =
    let long : length (take searched bytes) ≡ searched = omega (
      arith,
      length-drop searched bytes,
      length-append
          (take searched bytes) (drop searched bytes),
      ap length (take-append-drop searched bytes),
    ) in
    let here = found_after_at searched n (position_or_len (λ byte. byte == 10) (drop searched bytes)) _ e in
    here ∙ ap (λ k. cond (nat_lt (position_or_len (λ byte. byte == 10) (drop searched bytes))
    (length (drop searched bytes))) (Some (k + position_or_len (λ byte. byte == 10) (drop searched bytes)))
    None) (sym long)
    ∙ sym (position_after (take searched bytes) (drop searched bytes) none) ∙ ap (position (λ byte. byte == 10))
    (take-append-drop searched bytes)

pub none_after : (bytes : List ℕ) (searched : ℕ) → HasNoLineEnd (take searched bytes)
    → None ≡ position (λ byte. byte == 10) (drop searched bytes) → None ≡ position (λ byte. byte == 10) bytes
none_after bytes searched none e =
    none_after_at (length (take searched bytes)) (position_or_len (λ byte. byte == 10) (drop searched bytes)) _ e
    ∙ sym (position_after (take searched bytes) (drop searched bytes) none) ∙ ap (position (λ byte. byte == 10))
    (take-append-drop searched bytes)

some_case : (b : Bool) (n m : ℕ) → Some n ≡ cond b (Some m) None → (n ≡ m) × (b ≡ true)
some_case true n m e = (cc, refl)
some_case false n m e = cc

none_case : (b : Bool) (m : ℕ) → None ≡ cond b (Some m) None → b ≡ false
none_case true m e = cc
none_case false m e = refl

pub position_some : (p : ℕ → Bool) (xs : List ℕ) (n : ℕ) → Some n ≡ position p xs → (n ≡ position_or_len p xs)
    × (n < length xs)
position_some p xs n e =
    let found = some_case (nat_lt (position_or_len p xs) (length xs)) n (position_or_len p xs) e in
    let below = ltb-true _ _ found.1 in
    (found.0, omega arith)

pub position_none : (p : ℕ → Bool) (xs : List ℕ) → None ≡ position p xs → position_or_len p xs ≡ length xs
position_none p xs e =
    let none = ltb-false _ _ (none_case (nat_lt (position_or_len p xs) (length xs)) (position_or_len p xs) e) in
    let most = prefix_len-le-length (λ x. not (p x)) xs in
    omega arith

-- bytes that are known to end no line stay so when more come behind them
pub known_longer : (bytes more longer : List ℕ) (at n : ℕ) → longer ≡ bytes ++ more → at ≤ length bytes → n
    ≡ length bytes - at → HasNoLineEnd (drop at bytes)
    → (n ≤ length (drop at longer)) × HasNoLineEnd (take n (drop at longer))
known_longer bytes more longer at n e h k none =
    let front : drop at longer ≡ drop at bytes ++ more = ap (drop at) e ∙ drop-append-le at bytes more h in
    let long : length (drop at bytes) ≡ n = omega (arith, length-drop at bytes) in
    let cut : take n (drop at longer) ≡ drop at bytes = ap (take n) front ∙ ap (λ m. take m (drop at bytes ++ more))
    (sym long) ∙ take-append_seam (drop at bytes) more in
    (omega (arith, ap length front, length-append (drop at bytes) more), subst HasNoLineEnd (sym cut) none)

-- so a whole list of such bytes
pub known_whole : (bytes more longer : List ℕ) (n : ℕ) → longer ≡ bytes ++ more → n ≡ length bytes
    → HasNoLineEnd bytes → (n ≤ length longer) × HasNoLineEnd (take n longer)
known_whole bytes more longer n e k none =
    let cut : take n longer ≡ bytes = ap (take n) e ∙ ap (λ m. take m (bytes ++ more)) k ∙ take-append_seam bytes
    more in
    (omega (arith, ap length e, length-append bytes more), subst HasNoLineEnd (sym cut) none)
