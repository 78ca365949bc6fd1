-- Lines that are written from their end.
use Rattle.std.proofs.Common.{◌≡◌, ℕ, ◌-◌, List, ◌++◌, length, take, drop, codes, decimal, ◌∙◌, arith, append_assoc}
use Rattle.std.proofs.Common.{length-drop, take_all, ap, ◌+◌, ◌<◌, ◌≤◌, [], ◌∷◌}
use Rattle.std.proofs.lemmas.Fmt.{decimal_digit}
use Rattle.om_shell_commands.specs.Steps.{entry_text}

-- an entry before what stands behind it, part by part
pub entry_before : (serial worker line : ℕ) (behind : List ℕ) → entry_text serial worker line ++ behind
    ≡ codes "#" ++ (decimal serial ++ (codes " worker " ++ (decimal worker ++ (codes " line "
    ++ (decimal line ++ behind)))))
entry_before serial worker line behind =
    let s = decimal serial in
    let w = decimal worker in
    let l = decimal line in
    append_assoc (codes "#" ++ s ++ codes " worker " ++ w ++ codes " line ") l behind
    ∙ append_assoc (codes "#" ++ s ++ codes " worker " ++ w) (codes " line ") (l ++ behind)
    ∙ append_assoc (codes "#" ++ s ++ codes " worker ") w (codes " line " ++ (l ++ behind))
    ∙ append_assoc (codes "#" ++ s) (codes " worker ") (w ++ (codes " line " ++ (l ++ behind)))
    ∙ append_assoc (codes "#") s (codes " worker " ++ (w ++ (codes " line " ++ (l ++ behind))))

pub slice_to_end : (xs : List ℕ) (at : ℕ) → take (length xs - at) (drop at xs) ≡ drop at xs
slice_to_end xs at =
    let long = length-drop at xs in
    take_all (length xs - at) (drop at xs) (omega arith)

-- a number of one digit, as its only byte

pub digit_room : (n end : ℕ) → n < 10 → length (decimal n) ≤ end → length ((48 + n) ∷ []) ≤ end
digit_room n end small room = omega (arith, ap length (decimal_digit n small), room)

pub digit_start : (n start end : ℕ) → n < 10 → start + length ((48 + n) ∷ []) ≡ end
    → start + length (decimal n) ≡ end
digit_start n start end small is = rw (decimal_digit n small) is

pub digit_written : (n : ℕ) (line behind : List ℕ) → n < 10 → line ≡ ((48 + n) ∷ []) ++ behind
    → line ≡ decimal n ++ behind
digit_written n line behind small is = rw (decimal_digit n small) is
