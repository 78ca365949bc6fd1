-- Where operands are there and yet not all ints, one of them is no value.
use Rattle.std.proofs.Common.{◌≡◌, refl, sym, ◌∙◌, subst, ℕ, zero, suc, ◌+◌, ◌-◌, ◌<◌, ◌≤◌, ℤ, arith, Bool, true, false}
use Rattle.std.proofs.Common.{if◌then◌else◌, List, [], ◌∷◌, Option, None, Some, length, take, reverse, option_map}
use Rattle.std.proofs.Common.{nat_le}
use Rattle.std.specs.Prelude.{Contains}
use Rattle.std.proofs.lemmas.Bool.{le-leb}
use Rattle.std.proofs.lemmas.List.{length-reverse, get_or-reverse}
use Rattle.om_code.specs.declared.frame.Operand.{Operand}
use Rattle.om_code.specs.declared.frame.Operand.TheVariants as operand
use Rattle.om_code.specs.Frames.{int_at}
use Rattle.om_code.specs.Printing.{ints, ints_on}
use Rattle.om_soundness.specs.Reasons.{HasNoValue}

there : (x : Operand) (xs : List Operand) → Contains xs operand.NoValue → Contains (x ∷ xs) operand.NoValue
there x xs (k, lt, e) = (suc k, omega (arith, lt), e)

-- an operand that is there and no int
pub no_int : (s : List Operand) (depth n : ℕ) → depth < n → n ≤ length s → int_at depth s ≡ None → HasNoValue n s
no_int [] depth n lt le e = absurd (omega (arith, lt, le))
no_int (x ∷ s) depth zero lt le e = absurd (omega (arith, lt))
no_int (operand.Int v ∷ s) zero (suc n) lt le e = cc
no_int (operand.NoValue ∷ s) zero (suc n) lt le e = (0, omega arith, refl)
no_int (x ∷ s) (suc depth) (suc n) lt le e =
    there x (take n s) (no_int s depth n (omega (arith, lt)) (omega (arith, le)) e)

some_none : (v : ℤ) (o : Option (List ℤ)) → option_map (λ values. v ∷ values) o ≡ None → o ≡ None
some_none v None e = refl
some_none v (Some vs) e = cc

ints_none : (s : List Operand) → ints s ≡ None → Contains s operand.NoValue
ints_none [] e = cc
ints_none (operand.NoValue ∷ s) e = (0, omega arith, refl)
ints_none (operand.Int v ∷ s) e = there (operand.Int v) s (ints_none s (some_none v (ints s) e))

reversed : (s : List Operand) → Contains (reverse s) operand.NoValue → Contains s operand.NoValue
reversed s (k, lt, e) = (
  length s - 1 - k,
  omega (arith, lt, length-reverse s),
  sym
      (get_or-reverse s k operand.NoValue (omega (arith, lt, length-reverse s))) ∙ e,
)

if_there : (b : Bool) (o : Option (List ℤ)) → b ≡ true → (if b then o else None) ≡ None → o ≡ None
if_there true o h e = e
if_there false o h e = cc

-- operands that are there and not all ints
pub no_ints : (n : ℕ) (s : List Operand) → n ≤ length s → ints_on n s ≡ None → HasNoValue n s
no_ints n s le e =
    reversed (take n s) (ints_none (reverse (take n s))
    (if_there (nat_le n (length s)) (ints (reverse (take n s))) (le-leb n (length s) le) e))

one_more : (s : List Operand) (n : ℕ) → HasNoValue n s → HasNoValue (suc n) s
one_more s zero (k, lt, e) = absurd (omega (arith, lt))
one_more [] (suc n) (k, lt, e) = absurd (omega (arith, lt))
one_more (x ∷ s) (suc n) (zero, lt, e) = (zero, omega arith, e)
one_more (x ∷ s) (suc n) (suc k, lt, e) = there x (take (suc n) s) (one_more s n (k, omega (arith, lt), e))

-- the same among one more
pub no_ints_below : (n : ℕ) (s : List Operand) → n + 1 ≤ length s → ints_on n s ≡ None → HasNoValue (n + 1) s
no_ints_below n s le e =
    let more : suc n ≡ n + 1 = omega arith in
    subst (λ k. HasNoValue k s) more (one_more s n (no_ints n s (omega (arith, le)) e))
