-- The number that digits stand for only grows with more digits.
use Rattle.std.proofs.Common.{◌≡◌, ℕ, ◌+◌, ◌*◌, ◌<◌, ◌≤◌, List, [], ◌∷◌, ◌++◌, length, get_or, take, drop, fold, arith}
use Rattle.std.proofs.Common.{ap, take-append-drop}
use Rattle.std.proofs.lemmas.List.Sums.{fold_more, fold-append}
use Rattle.std.proofs.Math.Nat.{mul-le-mul_left}
use Rattle.std.specs.Char.{digit_value}
use Rattle.om_lexer.specs.Constants.{value_in}

abbrev step : ℕ → ℕ → ℕ → ℕ
step base value digit = value * base + digit_value digit

le_times : (base value more : ℕ) → 1 ≤ base → value ≤ value * base + more
le_times base value more some = let grown : value * 1 ≤ value * base = mul-le-mul_left value some in omega
    (arith, grown)

grows : (base value : ℕ) (digits : List ℕ) → 1 ≤ base → value ≤ fold (step base) value digits
grows base value [] some = omega arith
grows base value (digit ∷ digits) some =
    let first = le_times base value (digit_value digit) some in
    let rest = grows base (value * base + digit_value digit) digits some in
    omega (arith, first, rest)

-- a front of the digits stands for no more than all of them
pub value_front : (base : ℕ) (digits : List ℕ) (n : ℕ) → 1 ≤ base → value_in base (take n digits) ≤ value_in base digits
value_front base digits n some =
    let whole : value_in base (take n digits ++ drop n digits) ≡ value_in base digits = ap (value_in base)
    (take-append-drop n digits) in
    let parts = fold-append (step base) 0 (take n digits) (drop n digits) in
    let grown = grows base (value_in base (take n digits)) (drop n digits) some in
    omega (arith, whole, parts, grown)

-- one more digit
pub value_more : (base : ℕ) (digits : List ℕ) (n : ℕ) → n < length digits → value_in base (take (n + 1) digits)
    ≡ value_in base (take n digits) * base + digit_value (get_or digits n 0)
value_more base digits n inside = fold_more (step base) 0 digits n 0 inside

-- what the next digit makes is no more than the whole
pub value_next : (base : ℕ) (digits : List ℕ) (n : ℕ) → 1 ≤ base → n < length digits → value_in base (take n digits)
    * base + digit_value (get_or digits n 0) ≤ value_in base digits
value_next base digits n some inside =
    let more = value_more base digits n inside in
    let front = value_front base digits (n + 1) some in
    omega (arith, more, front)
