-- A read of one line of several.
use Rattle.std.proofs.Common.{◌≡◌, ℕ, List, [], ◌++◌, Some, Result, Ok, Err, take, ap, ◌∙◌, append_assoc}
use Rattle.std.specs.Io.KnownBytes.{ReadConsumes}

-- what a read takes from a line it takes from that line and later ones
pub reads_front : {E : Type 0} (line rest later buf : List ℕ) (r : Result ℕ E) → (line ≡ [] → later ≡ [])
    → ReadConsumes (Some line) (Some rest) r buf → ReadConsumes (Some (line ++ later)) (Some (rest ++ later)) r buf
reads_front line rest later buf (Ok n) begun read = (
  ap (λ l. l ++ later) read.0 ∙ append_assoc (take n buf) rest later,
  λ none room.
      let over : rest ≡ [] = read.1 none room in
      let no_line : line ≡ [] = read.0 ∙ ap (λ k. take k buf ++ rest) none ∙ over in
      ap (λ l. l ++ later) over ∙ begun no_line,
)
reads_front line rest later buf (Err e) begun read = ap (λ l. l ++ later) read
