-- Lists in parentheses behind the name of a macro (C17 6.10.3): parameters, and arguments.
use Rattle.std.specs.Prelude.{ℕ, Bool, true, false, ◌+◌, ◌-◌, ◌==◌, ◌||◌, ◌&&◌, not, if◌then◌else◌, Option, None, Some, List, [], ◌∷◌, ◌++◌}
use Rattle.std.specs.Str.{bytes_eq}
use Rattle.lab_port_tokens.specs.declared.piece.Piece.{Piece}
use Rattle.lab_port_words.specs.declared.class.Class.{Class}
use Rattle.lab_port_words.specs.declared.class.Class.TheVariants as classes
use Rattle.lab_port_words.specs.declared.class.Sign.TheVariants as signs
use Rattle.lab_port_words.specs.Classes.{is_gap}
use Rattle.lab_port_words.specs.Tables.{class_of}
use Rattle.lab_port_context.specs.Contexts.{deeper}
use Rattle.lab_port_context.specs.Ahead.{is_open, is_close, is_comma}
use Rattle.lab_port_calls.specs.declared.list.Arguments.{Arguments}

-- what stands in no list
abbrev pub is_foreign : Class → Bool
is_foreign (classes.Sign signs.Semicolon) = true
is_foreign (classes.Sign signs.OpenBrace) = true
is_foreign (classes.Sign signs.CloseBrace) = true
is_foreign (classes.Sign signs.Hash) = true
is_foreign _ = false

-- how many parentheses are open behind a piece
abbrev pub depth_behind : ℕ → Class → ℕ
depth_behind depth class =
    if is_open class then deeper depth else if is_close class then depth - 1 else depth

-- a piece after which a list cannot go on, where so many parentheses are open
abbrev pub breaks : ℕ → Class → Bool
breaks depth class = is_foreign class || (depth == 0 && not (is_gap class || is_open class))

-- the last piece of a list
abbrev pub closes : ℕ → Class → Bool
closes depth class = depth == 1 && is_close class

-- a comma between two arguments
abbrev pub parts : ℕ → Class → Bool
parts depth class = depth == 1 && is_comma class

-- how many commas part arguments behind a piece
abbrev pub commas_behind : ℕ → ℕ → Class → ℕ
commas_behind commas depth class = if parts depth class then deeper commas else commas

-- the list that follows, besides so many pieces and commas of it
abbrev pub list_end : ℕ → ℕ → ℕ → List Piece → Option Arguments
list_end passed commas depth [] = None
list_end passed commas depth (piece ∷ rest) =
    if breaks depth (class_of piece) then None
    else if closes depth (class_of piece) then Some (record { size = passed + 1; commas = commas })
    else list_end (passed + 1) (commas_behind commas depth (class_of piece)) (depth_behind depth (class_of piece)) rest

-- the list in parentheses that follows
abbrev pub list_of : List Piece → Option Arguments
list_of rest = list_end 0 0 0 rest

-- the bytes of a piece; white space, a comment and a line end are a space
abbrev pub spaced : Piece → List ℕ
spaced piece = if is_gap (class_of piece) then 32 ∷ [] else piece.text

-- an argument begins behind this piece
abbrev pub begins : ℕ → Class → Bool
begins depth class = (depth == 0 && is_open class) || parts depth class

-- behind how many such pieces more the wanted argument begins
abbrev pub left_behind : ℕ → ℕ → Class → ℕ
left_behind left depth class = if begins depth class then left - 1 else left

-- the wanted argument ends before this piece
abbrev pub ends : ℕ → ℕ → Class → Bool
ends left depth class = left == 0 && (parts depth class || closes depth class)

abbrev pub argument_part : ℕ → Piece → List ℕ
argument_part left piece = if left == 0 then spaced piece else []

-- the argument that begins behind so many commas and `(` of the list
abbrev pub argument_from : ℕ → ℕ → List Piece → List ℕ
argument_from left depth [] = []
argument_from left depth (piece ∷ rest) =
    if ends left depth (class_of piece) then []
    else argument_part left piece
    ++ argument_from (left_behind left depth (class_of piece)) (depth_behind depth (class_of piece)) rest

-- the argument of a list with this number, the first one for 0
abbrev pub argument_of : ℕ → List Piece → List ℕ
argument_of number list = argument_from (deeper number) 0 list

-- a further parameter stands behind a comma
abbrev pub number_behind : ℕ → Class → ℕ
number_behind number class = if is_comma class then deeper number else number

-- the number of the parameter with this name in the list that follows, besides so many
abbrev pub parameter_from : ℕ → List ℕ → List Piece → Option ℕ
parameter_from number name [] = None
parameter_from number name (piece ∷ rest) =
    if is_close (class_of piece) then None
    else if bytes_eq piece.text name then Some number
    else parameter_from (number_behind number (class_of piece)) name rest

-- the number of the parameter with this name, the first one for 0
abbrev pub parameter_of : List ℕ → List Piece → Option ℕ
parameter_of name list = parameter_from 0 name list
