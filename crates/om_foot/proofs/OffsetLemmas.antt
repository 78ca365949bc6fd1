-- Offsets of a block as bits.
use Rattle.std.proofs.Common.{◌≡◌, ◌≢◌, refl, sym, ◌∙◌, ap, Bool, true, false, cond, nat_eq, nat_lt, ℕ, zero, suc, ◌+◌, ◌-◌, ◌*◌, ◌/◌, ◌%◌, ◌^◌, ◌<◌, ◌≤◌, None, Some, arith, w64, bit_and, bit_or}
use Rattle.std.proofs.lemmas.Bool.Decides.{Decides-eqb}
use Rattle.std.specs.Int.{bit_at, trailing_zeros}
use Rattle.std.proofs.lemmas.Nat.{one_shl, shr-shr}
use Rattle.std.proofs.Math.Nat.{pow-suc}
use Rattle.std.proofs.lemmas.Nat.Bits.{bit_at_set_same, bit_at_set_other, bit_at_clear_same, bit_at_clear_other, bit_at-pow_same, bit_at-pow_other, bit_at-trailing_zeros, bit_at_above, bit_at-zero, bit_at_cat_high}
use Rattle.std.proofs.Math.Nat.{div-le_self}
use Rattle.om_foot.specs.Offsets.{has_offset}
use Rattle.om_foot.specs.Firsts.{IsFirst, IsGreatest}

is : (k i : ℕ) → nat_eq k i ≡ true → k ≡ i
is k i h = (Decides-eqb k i).0 h

apart : (k i : ℕ) → nat_eq k i ≡ false → i ≢ k
apart k i h same = let yes : nat_eq k i ≡ true = (Decides-eqb k i).1 (sym same) in cc

one : (d : ℕ) → d ≡ 1 → nat_eq d 1 ≡ true
one d h = ap (λ x. nat_eq x 1) h

no : (d : ℕ) → d ≡ 0 → nat_eq d 1 ≡ false
no d h = ap (λ x. nat_eq x 1) h

-- one offset alone
pub alone : (k i : ℕ) → k < 64 → has_offset (1 * 2 ^ k % 18446744073709551616) i ≡ nat_eq k i
alone k i within = ap (λ n. has_offset n i) (one_shl k 64 within) ∙ go (nat_eq k i) refl
  where
    go : (b : Bool) → nat_eq k i ≡ b → has_offset (2 ^ k) i ≡ b
    go true e = ap (has_offset (2 ^ k)) (sym (is k i e)) ∙ one _ (bit_at-pow_same k)
    go false e = no _ (bit_at-pow_other k i (apart k i e))

-- one more
pub added : (n k i : ℕ) → k < 64
    → has_offset (bit_or n (1 * 2 ^ k % 18446744073709551616)) i ≡ cond (nat_eq k i) true (has_offset n i)
added n k i within = go (nat_eq k i) refl
  where
    go : (b : Bool) → nat_eq k i ≡ b → has_offset (bit_or n (1 * 2 ^ k % 18446744073709551616)) i ≡ cond b true (has_offset n i)
    go true e = ap (has_offset (bit_or n (1 * 2 ^ k % 18446744073709551616))) (sym (is k i e)) ∙ one _ (bit_at_set_same w64 n k within)
    go false e = ap (λ d. nat_eq d 1) (bit_at_set_other w64 n k within i (apart k i e))

-- one less
pub cleared : (n k i : ℕ) → k < 64 → i < 64
    → has_offset (bit_and n (18446744073709551615 - 1 * 2 ^ k % 18446744073709551616)) i ≡ cond (nat_eq k i) false (has_offset n i)
cleared n k i within low = go (nat_eq k i) refl
  where
    go : (b : Bool) → nat_eq k i ≡ b
        → has_offset (bit_and n (18446744073709551615 - 1 * 2 ^ k % 18446744073709551616)) i ≡ cond b false (has_offset n i)
    go true e = ap (has_offset (bit_and n (18446744073709551615 - 1 * 2 ^ k % 18446744073709551616))) (sym (is k i e))
        ∙ no _ (bit_at_clear_same w64 n k within)
    go false e = ap (λ d. nat_eq d 1) (bit_at_clear_other w64 n k within i low (apart k i e))

pub none_of : (k : ℕ) → has_offset 0 k ≡ false
none_of k = no _ (bit_at-zero k)

-- a number above 0 stays one with a bit more
pub still_some : (n k : ℕ) → k < 64 → 0 < bit_or n (1 * 2 ^ k % 18446744073709551616)
still_some n k within = some (bit_or n (1 * 2 ^ k % 18446744073709551616)) refl
  where
    there : has_offset (bit_or n (1 * 2 ^ k % 18446744073709551616)) k ≡ true
    there = one _ (bit_at_set_same w64 n k within)

    some : (m : ℕ) → bit_or n (1 * 2 ^ k % 18446744073709551616) ≡ m → 0 < m
    some zero e = let yes = there in let none : has_offset (bit_or n (1 * 2 ^ k % 18446744073709551616)) k ≡ false = ap (λ x. has_offset x k) e ∙ none_of k in cc
    some (suc m) e = omega arith

-- the first offset
module _ (n : ℕ) (some : 0 < n) (fits : n < 2 ^ 64) where
  pub first-within : trailing_zeros w64 n < 64
  first-within = (bit_at-trailing_zeros w64 n some fits).0

  pub first-there : has_offset n (trailing_zeros w64 n) ≡ true
  first-there = one _ (bit_at-trailing_zeros w64 n some fits).1

  pub first-none : (i : ℕ) → i < trailing_zeros w64 n → has_offset n i ≡ false
  first-none i below = no _ ((bit_at-trailing_zeros w64 n some fits).2 i below)

-- what lies behind an offset
behind : (n k i : ℕ) → has_offset (n / 2 ^ k / 2) i ≡ has_offset n (k + 1 + i)
behind n k i = ap (λ d. nat_eq d 1) (ap (λ x. x % 2) (ap (λ x. x / 2 ^ i) (shr-shr n k 1) ∙ shr-shr n (k + 1) i))

pub above : (n i : ℕ) → n < 2 ^ 64 → 64 ≤ i → has_offset n i ≡ false
above n i fits from = no _ (bit_at_above n 64 i fits from)

no_later : (n k : ℕ) → n / 2 ^ k / 2 ≡ 0 → (s : ℕ) → k < s → has_offset n s ≡ false
no_later n k h s after =
    let e : s ≡ k + 1 + (s - (k + 1)) = omega arith in
    ap (has_offset n) e ∙ sym (behind n k (s - (k + 1))) ∙ ap (λ x. has_offset x (s - (k + 1))) h ∙ none_of (s - (k + 1))

pub later-none : (n k : ℕ) → n / 2 ^ k / 2 ≡ 0 → IsFirst (has_offset n) k None
later-none n k h = no_later n k h

pub later-first : (n k : ℕ) → n < 2 ^ 64 → 0 < n / 2 ^ k / 2
    → IsFirst (has_offset n) k (Some (k + 1 + trailing_zeros w64 (n / 2 ^ k / 2)))
later-first n k fits some =
    let m = n / 2 ^ k / 2 in
    let small : m < 2 ^ 64 = omega (arith, div-le_self n (2 ^ k)) in
    let t = trailing_zeros w64 m in (
      omega arith,
      sym (behind n k t) ∙ first-there m some small,
      λ s after before. let e : s ≡ k + 1 + (s - (k + 1)) = omega arith in
          ap (has_offset n) e ∙ sym (behind n k (s - (k + 1))) ∙ first-none m some small (s - (k + 1)) (omega arith),
    )

pub later-within : (n k : ℕ) → n < 2 ^ 64 → 0 < n / 2 ^ k / 2 → k + 1 + trailing_zeros w64 (n / 2 ^ k / 2) < 64
later-within n k fits some = at (k + 1 + trailing_zeros w64 (n / 2 ^ k / 2)) (later-first n k fits some).1
  where
    at : (j : ℕ) → has_offset n j ≡ true → j < 64
    at j there = decide (nat_lt j 64) refl
      where
        decide : (b : Bool) → nat_lt j 64 ≡ b → j < 64
        decide true e = grind (arith, e)
        decide false e = let none : has_offset n j ≡ false = above n j fits (grind (arith, e)) in cc

pub above_zero : (m : ℕ) → (m ≡ 0 → ⊥) → 0 < m
above_zero zero h = absurd (h refl)
above_zero (suc m) h = omega arith

-- the last offset
module _ (n r : ℕ) (least : 2 ^ r ≤ n) (most : n < 2 * 2 ^ r) where
  split : n ≡ 1 * 2 ^ r + (n - 2 ^ r)
  split = omega arith

  none_left : r - r ≡ 0
  none_left = omega arith

  pub last-there : has_offset n r ≡ true
  last-there = one _ (ap (λ x. bit_at x r) split ∙ bit_at_cat_high 1 r (n - 2 ^ r) r (omega arith) (omega arith)
      ∙ ap (bit_at 1) none_left)

  pub last-none : (i : ℕ) → r < i → has_offset n i ≡ false
  last-none i after = no _ (bit_at_above n (suc r) i (omega (arith, pow-suc 2 r)) after)

  pub last-greatest : IsGreatest (has_offset n) (Some r)
  last-greatest = (last-there, λ s there. at s there (nat_lt r s) refl)
    where
      at : (s : ℕ) → has_offset n s ≡ true → (b : Bool) → nat_lt r s ≡ b → s ≤ r
      at s there true e = let none : has_offset n s ≡ false = last-none s (grind (arith, e)) in cc
      at s there false e = grind (arith, e)
