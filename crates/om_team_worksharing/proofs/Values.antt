-- The value of an iteration has 128 bits.
use Rattle.std.proofs.Common.{◌≡◌, ◌∙◌, ap, arith, ℕ, ◌*◌, ◌<◌, ◌≤◌, ◌^◌, ℤ, pos, negsuc, ◌+ℤ◌, ◌*ℤ◌, to_z, of_z}
use Rattle.std.proofs.Common.{FitsSigned, subst, sym}
use Rattle.std.specs.Prelude.{unsigned_abs}
use Rattle.std.specs.Int.{w32, w128}
use Rattle.std.proofs.lemmas.Int.{ints, to_z-of_z, fits_signed_from_abs, unsigned_abs-mul}
use Rattle.std.proofs.lemmas.Nat.{mul-le}

abs_of_int : (z : ℤ) → FitsSigned w32 z → unsigned_abs z ≤ 2 ^ 31
abs_of_int (pos n) h = omega (arith, ints)
abs_of_int (negsuc n) h = omega (arith, ints)

abs_of_product : (n : ℕ) (step : ℤ) → n < 2 ^ 64 → FitsSigned w32 step → unsigned_abs (pos n *ℤ step) ≤ 2 ^ 95
abs_of_product n step h f =
    let parts : n * unsigned_abs step ≤ 2 ^ 64 * 2 ^ 31 = mul-le n (unsigned_abs step) (2 ^ 64) (2 ^ 31)
    (omega arith) (abs_of_int step f) in
    subst (λ k. k ≤ 2 ^ 95) (sym (unsigned_abs-mul (pos n) step)) (omega (arith, parts))

abs_fits : (z : ℤ) → unsigned_abs z ≤ 2 ^ 95 → FitsSigned w128 z
abs_fits z h = fits_signed_from_abs w128 z (omega (arith, h))

sum_fits : (a p : ℤ) → FitsSigned w32 a → unsigned_abs p ≤ 2 ^ 95 → FitsSigned w128 (a +ℤ p)
sum_fits a (pos k) f h = omega (arith, ints)
sum_fits a (negsuc k) f h = omega (arith, ints)

-- a product and a sum in 128 bits, of numbers that have fewer
product_is : (n : ℕ) (y z step : ℤ) → n < 2 ^ 64 → FitsSigned w32 step → y ≡ pos n → z ≡ step
    → to_z w128 (of_z w128 (y *ℤ z)) ≡ pos n *ℤ step
product_is n y z step h f e g =
    ap (λ k. to_z w128 (of_z w128 (k *ℤ z))) e
    ∙ ap (λ k. to_z w128 (of_z w128 (pos n *ℤ k))) g
    ∙ to_z-of_z w128 (pos n *ℤ step) (abs_fits (pos n *ℤ step) (abs_of_product n step h f))

pub product_fits : (n : ℕ) (y z step : ℤ) → n < 2 ^ 64 → FitsSigned w32 step → y ≡ pos n → z ≡ step
    → FitsSigned w128 (y *ℤ z)
product_fits n y z step h f e g =
    subst (λ k. FitsSigned w128 (k *ℤ z)) (sym e)
    (subst (λ k. FitsSigned w128 (pos n *ℤ k)) (sym g)
    (abs_fits (pos n *ℤ step) (abs_of_product n step h f)))

pub value_fits : (n : ℕ) (x y z lower step : ℤ) → n < 2 ^ 64 → FitsSigned w32 lower → FitsSigned w32 step → x ≡ lower
    → y ≡ pos n → z ≡ step → FitsSigned w128 (x +ℤ to_z w128 (of_z w128 (y *ℤ z)))
value_fits n x y z lower step h f g d e k =
    subst (λ q. FitsSigned w128 (q +ℤ to_z w128 (of_z w128 (y *ℤ z)))) (sym d)
    (subst (λ q. FitsSigned w128 (lower +ℤ q)) (sym (product_is n y z step h g e k))
    (sum_fits lower (pos n *ℤ step) f (abs_of_product n step h g)))

pub value_is : (n : ℕ) (x y z lower step : ℤ) → n < 2 ^ 64 → FitsSigned w32 lower → FitsSigned w32 step → x ≡ lower
    → y ≡ pos n → z ≡ step
    → to_z w128 (of_z w128 (x +ℤ to_z w128 (of_z w128 (y *ℤ z)))) ≡ lower +ℤ pos n *ℤ step
value_is n x y z lower step h f g d e k =
    ap (λ q. to_z w128 (of_z w128 (q +ℤ to_z w128 (of_z w128 (y *ℤ z))))) d
    ∙ ap (λ q. to_z w128 (of_z w128 (lower +ℤ q))) (product_is n y z step h g e k)
    ∙ to_z-of_z w128 (lower +ℤ pos n *ℤ step) (sum_fits lower (pos n *ℤ step) f (abs_of_product n step h g))
