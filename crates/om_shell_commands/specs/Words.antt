-- How a line falls into words.
use denote.Ref.{Bor}
use Rattle.std.specs.Prelude.{ℕ, not, List, ◌==◌, length, filter, map}
use Rattle.std.specs.List.{slice_split}

-- the words of a line, which spaces part
abbrev pub words_of : List ℕ → List (List ℕ)
words_of line = filter (λ word. not (length word == 0)) (slice_split (λ byte. byte == 32) line)

-- the words that are lent, as bytes
abbrev pub spelled : List (Bor (List ℕ)) → List (List ℕ)
spelled words = map (λ (word : Bor (List ℕ)). word.now) words
