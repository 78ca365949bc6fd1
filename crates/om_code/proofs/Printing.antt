-- What PRINT finds: its text, and as many ints as the text takes.
use Rattle.std.proofs.Common.{◌≡◌, ℕ, suc, ℤ, Bool, true, false, List, [], ◌∷◌, length, get_or, take, reverse, Option}
use Rattle.std.proofs.Common.{Some, None, refl, sym, ap, ◌∙◌, nat_le, slice_get, unwrap_or, option_map, if◌then◌else◌}
use Rattle.std.proofs.Common.{◌<◌, ◌+◌, ◌++◌, drop, append_assoc, add-one, drop-cons}
use Rattle.std.specs.Prelude.{IsSomeAnd}
use Rattle.std.proofs.lemmas.Bool.{leb-true}
use Rattle.std.proofs.lemmas.List.{length-reverse, length-take-le}
use Rattle.std.proofs.lemmas.Option.{slice_get-get_or, slice_get_within}
use Rattle.om_code.specs.declared.raw.Piece.{Piece}
use Rattle.om_code.specs.declared.raw.Raw.{Raw}
use Rattle.om_code.specs.declared.frame.Operand.{Operand}
use Rattle.om_code.specs.declared.frame.Operand.TheVariants as operand
use Rattle.om_code.specs.Validity.{IsKnownText, value_count}
use Rattle.om_code.specs.Printing.{printed, ints, ints_on}
use Rattle.om_code.specs.Frames.{print_bytes}

-- a text that is known is found
pub text_known : (texts : List (List Piece)) (text n : ℕ) (pieces : List Piece) → IsKnownText texts text n → pieces
    ≡ get_or texts text pieces → (slice_get texts text ≡ Some pieces) × (value_count pieces ≡ n)
text_known texts text n pieces known is = found (slice_get texts text) refl known
  where
    found : (o : Option (List Piece)) → slice_get texts text ≡ o → IsSomeAnd o (λ p. value_count p ≡ n)
        → (slice_get texts text ≡ Some pieces) × (value_count pieces ≡ n)
    found None e h = absurd h
    found (Some p) e h =
        let at : slice_get texts text ≡ Some pieces = slice_get-get_or texts text pieces
        (slice_get_within texts text p e) ∙ ap Some (sym is) in
        let same : Some p ≡ Some pieces = sym e ∙ at in
        let q : p ≡ pieces = cc in
        (at, ap (λ x. value_count x) (sym q) ∙ h)

-- as many ints as operands
length-ints : (s : List Operand) (vs : List ℤ) → ints s ≡ Some vs → length vs ≡ length s
length-ints [] vs e = let f : [] ≡ vs = cc in ap length (sym f)
length-ints (operand.NoValue ∷ s) vs e = cc
length-ints (operand.Int v ∷ s) vs e = of (ints s) (λ ws was. length-ints s ws was) e
  where
    of : (o : Option (List ℤ)) → ((ws : List ℤ) → o ≡ Some ws → length ws ≡ length s) → option_map (λ l. v ∷ l) o
        ≡ Some vs → length vs ≡ suc (length s)
    of None h f = cc
    of (Some ws) h f = let g : v ∷ ws ≡ vs = cc in ap length (sym g) ∙ ap suc (h ws refl)

pub length-ints_on : (n : ℕ) (s : List Operand) (vs : List ℤ) → ints_on n s ≡ Some vs → length vs ≡ n
length-ints_on n s vs e = of (nat_le n (length s)) refl e
  where
    of : (b : Bool) → nat_le n (length s) ≡ b → (if b then ints (reverse (take n s)) else None) ≡ Some vs
        → length vs ≡ n
    of false was f = cc
    of true was f = length-ints (reverse (take n s)) vs f ∙ length-reverse (take n s) ∙ length-take-le n s
        (leb-true n (length s) was)

-- the bytes of the text that is found, with the ints that are found
pub bytes_are : (raw : Raw) (text n : ℕ) (s : List Operand) (pieces : List Piece) (vs : List ℤ)
    → slice_get raw.texts text ≡ Some pieces → ints_on n s ≡ Some vs → printed pieces vs ≡ print_bytes raw text n s
bytes_are raw text n s pieces vs found on =
    ap (λ o. printed (unwrap_or o []) vs) (sym found) ∙ ap (λ o. printed (unwrap_or (slice_get raw.texts text) [])
    (unwrap_or o [])) (sym on)

ints_with : (vs : List ℤ) (v : ℤ) (o : Option (List ℤ)) → option_map (λ rest. (vs ++ v ∷ []) ++ rest) o
    ≡ option_map (λ rest. vs ++ rest) (option_map (λ rest. v ∷ rest) o)
ints_with vs v None = refl
ints_with vs v (Some rest) = ap Some (append_assoc vs (v ∷ []) rest)

-- an int more was read, and pushed
pub ints_further : (i : ℕ) (s : List Operand) (d : Operand) (vs : List ℤ) (v w : ℤ) → i < length s
    → get_or s i d ≡ operand.Int v → w ≡ v → option_map (λ rest. vs ++ rest) (ints (drop i s)) ≡ ints s
    → option_map (λ rest. (vs ++ w ∷ []) ++ rest) (ints (drop (i + 1) s)) ≡ ints s
ints_further i s d vs v w h is same so =
    ap (λ n. option_map (λ rest. (vs ++ n ∷ []) ++ rest) (ints (drop (i + 1) s))) same
    ∙ ap (λ j. option_map (λ rest. (vs ++ v ∷ []) ++ rest) (ints (drop j s))) (add-one i)
    ∙ ints_with vs v (ints (drop (suc i) s))
    ∙ ap (λ x. option_map (λ rest. vs ++ rest) (ints (x ∷ drop (suc i) s))) (sym is)
    ∙ ap (λ l. option_map (λ rest. vs ++ rest) (ints l)) (sym (drop-cons s i d h))
    ∙ so
