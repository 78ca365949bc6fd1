-- Lists from the top down, kept with the top last.
use Rattle.std.proofs.Common.{◌≡◌, ◌∷◌, [], ℕ, ◌-◌, ◌≤◌, ◌<◌, List, length, reverse, sym, ap, ◌∙◌, arith}
use Rattle.std.proofs.lemmas.List.{length-reverse}
use Rattle.std.proofs.lemmas.List.{get_or-reverse}
use Rattle.std.proofs.lemmas.Option.{slice_get-get_or, slice_get_past}
use Rattle.std.specs.Prelude.{slice_get, Option, None, Some, get_or}

at_some : {T : Type 0} (xs : List T) (d : T) (k : ℕ) → k < length xs → slice_get (reverse xs) k
    ≡ slice_get xs (length xs - 1 - k)
at_some xs d k h =
    slice_get-get_or (reverse xs) k d (omega (arith, h, length-reverse xs))
    ∙ ap Some (get_or-reverse xs k d h)
    ∙ sym (slice_get-get_or xs (length xs - 1 - k) d (omega (arith, h)))

-- the item at a depth below the top lies so far from the end
pub at_depth : {T : Type 0} (xs : List T) (k : ℕ) → k < length xs → slice_get (reverse xs) k
    ≡ slice_get xs (length xs - 1 - k)
at_depth [] k h = cc
at_depth (x ∷ xs) k h = at_some (x ∷ xs) x k h

pub past_depth : {T : Type 0} (xs : List T) (k : ℕ) → length xs ≤ k → slice_get (reverse xs) k ≡ None
past_depth xs k h = slice_get_past (reverse xs) k (omega (arith, h, length-reverse xs))
