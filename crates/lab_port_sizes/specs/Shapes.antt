-- How the number of elements of an array is asked for.
use Rattle.std.specs.Prelude.{ℕ, Bool, ◌+◌, ◌-◌, ◌==◌, ◌&&◌, if◌then◌else◌, codes, Option, None, Some, List, [], ◌∷◌}
use Rattle.std.specs.Str.{bytes_eq}
use Rattle.lab_port_tokens.specs.declared.piece.Piece.{Piece}
use Rattle.lab_port_words.specs.Classes.{is_gap}
use Rattle.lab_port_words.specs.Tables.{class_of}
use Rattle.lab_port_context.specs.Ahead.{nth_text}
use Rattle.lab_port_sizes.specs.declared.shape.Asked.{Asked}

abbrev pub is_nth : ℕ → List ℕ → List Piece → Bool
is_nth n text rest = bytes_eq (nth_text n rest) text

-- how many pieces there are up to the n-th token and with it, besides these
abbrev pub size_to : ℕ → ℕ → List Piece → ℕ
size_to n passed [] = passed
size_to n passed (piece ∷ rest) =
    if is_gap (class_of piece) then size_to n (passed + 1) rest
    else if n == 0 then passed + 1
    else size_to (n - 1) (passed + 1) rest

-- an array here, whose name is the n-th token, and whose question ends with the token of this number
abbrev pub asks : ℕ → ℕ → Asked
asks name end = record { name = name; end = end }

-- the n-th token is the name that is asked for
abbrev pub is_same : ℕ → ℕ → List Piece → Bool
is_same name n rest = bytes_eq (nth_text n rest) (nth_text name rest)

-- `a[0]` from the n-th token on
abbrev pub is_element : ℕ → ℕ → List Piece → Bool
is_element name n rest =
    is_same name n rest
    && (is_nth (n + 1) (codes "[") rest && (is_nth (n + 2) (codes "0") rest && is_nth (n + 3) (codes "]") rest))

-- `/ sizeof` from the n-th token on
abbrev pub is_part : ℕ → List Piece → Bool
is_part n rest = is_nth n (codes "/") rest && is_nth (n + 1) (codes "sizeof") rest

-- `a[0]` or `(a[0])` from the n-th token on
abbrev pub element_at : ℕ → ℕ → List Piece → Option Asked
element_at name n rest =
    if is_element name n rest then Some (asks name (n + 3))
    else if is_nth n (codes "(") rest && (is_element name (n + 1) rest && is_nth (n + 5) (codes ")") rest)
    then Some (asks name (n + 5))
    else None

-- behind a `sizeof`: `(a) / sizeof (a[0])`, each with parentheses or without them (C17 6.5.3.4p7)
abbrev pub asked_at : List Piece → Option Asked
asked_at rest =
    if is_part 1 rest then element_at 0 3 rest
    else if is_nth 0 (codes "(") rest && (is_nth 2 (codes ")") rest && is_part 3 rest) then element_at 1 5 rest
    else None

-- the name of the array that is asked for
abbrev pub name_by : Option Asked → List Piece → List ℕ
name_by None rest = []
name_by (Some asked) rest = nth_text asked.name rest
