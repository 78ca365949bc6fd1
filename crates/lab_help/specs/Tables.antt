-- Tables of words by names.
use Rattle.std.specs.Prelude.{ℕ, List, [], ◌∷◌, Option, None, Some, if◌then◌else◌}
use Rattle.std.specs.Str.{bytes_eq}

-- the words of the first row of this name
abbrev pub words_of : List (List ℕ × List ℕ) → List ℕ → Option (List ℕ)
words_of [] name = None
words_of (row ∷ rows) name = if bytes_eq row.0 name then Some row.1 else words_of rows name
