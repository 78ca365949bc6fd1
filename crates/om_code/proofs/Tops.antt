-- Operands from the top down, kept with the top last.
use Rattle.std.proofs.Common.{◌≡◌, ℕ, ◌-◌, ◌≤◌, List, ◌++◌, length, take, drop, reverse, None, sym, ap, ◌∙◌, arith}
use Rattle.std.proofs.Common.{if◌then◌else◌}
use Rattle.std.proofs.lemmas.List.{reverse-append, length-reverse, length-drop, take-append-drop, reverse-reverse}
use Rattle.std.proofs.lemmas.Bool.{le-leb}
use Rattle.std.proofs.Math.Seq.{take-append_seam, take-length}
use Rattle.om_code.specs.declared.frame.Operand.{Operand}
use Rattle.om_code.specs.Printing.{ints, ints_on}

taken : (n : ℕ) (xs : List Operand) → n ≤ length xs → reverse (take n (reverse xs)) ≡ drop (length xs - n) xs
taken n xs few =
    let k = length xs - n in
    let size : length (reverse (drop k xs)) ≡ n = length-reverse (drop k xs) ∙ length-drop k xs
    ∙ (let e : length xs - (length xs - n) ≡ n = omega (arith, few) in e) in
    ap (λ l. reverse (take n (reverse l))) (sym (take-append-drop k xs))
    ∙ ap (λ l. reverse (take n l)) (reverse-append (take k xs) (drop k xs))
    ∙ ap (λ m. reverse (take m (reverse (drop k xs) ++ reverse (take k xs)))) (sym size)
    ∙ ap reverse (take-append_seam (reverse (drop k xs)) (reverse (take k xs)))
    ∙ reverse-reverse (drop k xs)

-- what lies from a place of a list on
rest_from : (from : ℕ) (xs : List Operand) → take (length xs - from) (drop from xs) ≡ drop from xs
rest_from from xs = ap (λ n. take n (drop from xs)) (sym (length-drop from xs)) ∙ take-length (drop from xs)

-- where there are so many operands, their ints are those of the last ones of the slice
pub top_ints : (n from : ℕ) (xs operands : List Operand) → reverse xs ≡ operands → (n ≤ length xs)
    × (from ≡ length xs - n) → ints (take (length xs - from) (drop from xs)) ≡ ints_on n operands
top_ints n from xs operands e few =
    ap ints (rest_from from xs)
    ∙ ap (λ k. ints (drop k xs)) few.1
    ∙ ap ints (sym (taken n xs few.0))
    ∙ ap (λ b. if b then ints (reverse (take n (reverse xs))) else None)
    (sym (le-leb n (length (reverse xs)) (let l = length-reverse xs in omega (arith, l, few.0))))
    ∙ ap (ints_on n) e
