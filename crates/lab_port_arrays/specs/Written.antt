-- What is written for an array, and for its indices.
use Rattle.std.specs.Prelude.{ℕ, Bool, ◌==◌, ◌&&◌, not, if◌then◌else◌, nat_lt, codes, decimal, List, [], ◌∷◌, ◌++◌}
use Rattle.lab_port_tokens.specs.declared.piece.Piece.{Piece}
use Rattle.lab_port_words.specs.declared.class.Class.{Class}
use Rattle.lab_port_words.specs.Classes.{is_gap}
use Rattle.lab_port_words.specs.Tables.{class_of}
use Rattle.lab_port_context.specs.Contexts.{deeper}
use Rattle.lab_port_arrays.specs.Brackets.{depth_behind, closes}

-- an array with this length
abbrev pub sized_text : List ℕ → ℕ → List ℕ
sized_text name number = name ++ codes "[" ++ decimal number ++ codes "]"

-- a piece between the brackets of the index with this number
abbrev pub is_inner : ℕ → ℕ → ℕ → Class → Bool
is_inner number depth closed class = (nat_lt 0 depth && closed == number) && not (closes depth class)

abbrev pub inner_part : ℕ → ℕ → ℕ → Piece → List ℕ
inner_part number depth closed piece =
    if not (is_inner number depth closed (class_of piece)) then []
    else if is_gap (class_of piece) then 32 ∷ []
    else piece.text

-- how many indices are closed behind a piece
abbrev pub closed_behind : ℕ → ℕ → Class → ℕ
closed_behind depth closed class = if closes depth class then deeper closed else closed

abbrev pub inner_from : ℕ → ℕ → ℕ → List Piece → List ℕ
inner_from number depth closed [] = []
inner_from number depth closed (piece ∷ rest) =
    inner_part number depth closed piece
    ++ inner_from number (depth_behind depth (class_of piece)) (closed_behind depth closed (class_of piece)) rest

-- what stands between the brackets of the index with this number, white space as a space
abbrev pub inner_text : ℕ → List Piece → List ℕ
inner_text number pieces = inner_from number 0 0 pieces

-- an element by one index, where a row has so many elements
abbrev pub index_text : List ℕ → ℕ → List Piece → List ℕ
index_text name columns pieces =
    name ++ codes "[(" ++ inner_text 0 pieces ++ codes ") * " ++ decimal columns ++ codes " + (" ++ inner_text 1 pieces
    ++ codes ")]"
