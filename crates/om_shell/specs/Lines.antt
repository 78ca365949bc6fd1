-- How the bytes that are read fall into a source and lines of commands.
use Rattle.std.specs.Prelude.{◌≡◌, ℕ, Bool, true, false, List, [], ◌∷◌, ◌++◌, ◌==◌, if◌then◌else◌, codes, length, take}
use Rattle.std.specs.List.{slice_split, position_or_len}
use Rattle.std.specs.Str.{bytes_eq}
use Rattle.std.specs.Str.Lines.{strip_carriage_return, lines_of_parts}

-- no byte ends a line
abbrev pub HasNoLineEnd : List ℕ → Type 0
HasNoLineEnd bytes = position_or_len (λ byte. byte == 10) bytes ≡ length bytes

-- the parts between line feeds
abbrev pub parts_of : List ℕ → List (List ℕ)
parts_of bytes = slice_split (λ byte. byte == 10) bytes

-- the line that ends the source
abbrev pub is_mark : List ℕ → Bool
is_mark line = bytes_eq line (codes "%%")

-- the bytes before the first line that is the mark, which may be the last line and lack its line feed
abbrev pub source_in : List (List ℕ) → List ℕ
source_in [] = []
source_in (part ∷ []) = if is_mark part then [] else part
source_in (part ∷ (next ∷ more)) = if is_mark (strip_carriage_return part) then [] else part ++ 10
    ∷ source_in (next ∷ more)

-- the lines after it
abbrev pub commands_in : List (List ℕ) → List (List ℕ)
commands_in [] = []
commands_in (part ∷ []) = []
commands_in (part ∷ (next ∷ more)) = if is_mark (strip_carriage_return part) then lines_of_parts (next ∷ more) else
    commands_in (next ∷ more)

-- whether a whole line, one that a line feed ends, is the mark
abbrev pub has_mark : List (List ℕ) → Bool
has_mark [] = false
has_mark (part ∷ []) = false
has_mark (part ∷ (next ∷ more)) = if is_mark (strip_carriage_return part) then true else has_mark (next ∷ more)

-- what is kept of a source: its first 4,194,304 bytes, four times as many as it may have
unfoldable pub kept : List ℕ → List ℕ
kept source = take 4194304 source
