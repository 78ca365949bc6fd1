-- What is written for a call of a macro (C17 6.10.3.1, 6.10.3.4).
use Rattle.std.specs.Prelude.{ℕ, zero, suc, Bool, ◌-◌, ◌==◌, if◌then◌else◌, nat_lt, length, take, drop, flat_map, codes, Option, None, Some, List, [], ◌∷◌, ◌++◌}
use Rattle.std.specs.Str.{bytes_eq}
use Rattle.lab_port_tokens.specs.declared.piece.Piece.{Piece}
use Rattle.lab_port_tokens.specs.Pieces.{pieces_of}
use Rattle.lab_port_words.specs.Classes.{is_word}
use Rattle.lab_port_words.specs.Tables.{class_of}
use Rattle.lab_port_rules.specs.declared.rule.Meaning.{Meaning}
use Rattle.lab_port_calls.specs.declared.list.Arguments.{Arguments}
use Rattle.lab_port_calls.specs.Lists.{list_of, spaced, argument_of, parameter_of}

-- the parameters and the body of the macro with this name; nothing where there is none
abbrev pub function_text : List ℕ → List Meaning → List ℕ
function_text name [] = []
function_text name (next ∷ rest) = if bytes_eq next.name name then next.text else function_text name rest

abbrev pub is_known : List ℕ → List Meaning → Bool
is_known name names = nat_lt 0 (length (function_text name names))

abbrev pub body_by : Option Arguments → List Piece → List Piece
body_by None function = []
body_by (Some list) function = drop list.size function

-- the body behind the parameters
abbrev pub body_of : List Piece → List Piece
body_of function = body_by (list_of function) function

abbrev pub parameter_number : List Piece → Piece → Option ℕ
parameter_number function piece = if is_word (class_of piece) then parameter_of piece.text function else None

abbrev pub part_by : Option ℕ → List Piece → Piece → List ℕ
part_by None list piece = spaced piece
part_by (Some number) list piece = codes " " ++ argument_of number list ++ codes " "

-- a piece of a body, where the macro is called with this list: a parameter is its argument, with a space on each side
abbrev pub body_part : List Piece → List Piece → Piece → List ℕ
body_part function list piece = part_by (parameter_number function piece) list piece

-- the body of a macro that is called with this list
abbrev pub called_text : List Piece → List Piece → List ℕ
called_text function list = codes " " ++ flat_map (body_part function list) (body_of function) ++ codes " "

-- C17 6.10.3p4: a call has as many arguments as the macro has parameters
abbrev pub list_by : Option Arguments → Option Arguments → Option ℕ
list_by None list = None
list_by (Some parameters) None = None
list_by (Some parameters) (Some list) = if parameters.commas == list.commas then Some list.size else None

-- how many pieces the list of a call of this macro has
abbrev pub call_size : List Piece → List Piece → Option ℕ
call_size function rest = list_by (list_of function) (list_of rest)

abbrev pub text_by : Option ℕ → List Piece → Piece → List Piece → List ℕ
text_by None function piece rest = spaced piece
text_by (Some size) function piece rest = called_text function (take size rest)

abbrev pub size_by : Option ℕ → ℕ
size_by None = 0
size_by (Some size) = size

abbrev pub function_of : Piece → List Meaning → List Piece
function_of piece names = pieces_of (function_text piece.text names)

-- what is written for a piece, before these
abbrev pub text_here : List Meaning → Piece → List Piece → List ℕ
text_here names piece rest =
    text_by (call_size (function_of piece names) rest) (function_of piece names) piece rest

-- how many pieces behind it are written with it
abbrev pub taken_here : List Meaning → Piece → List Piece → ℕ
taken_here names piece rest = size_by (call_size (function_of piece names) rest)

-- some pieces, of which so many are written already, where each call is the body of its macro
abbrev pub once_from : List Meaning → ℕ → List Piece → List ℕ
once_from names taken [] = []
once_from names taken (piece ∷ rest) =
    if taken == 0 then text_here names piece rest ++ once_from names (taken_here names piece rest) rest
    else once_from names (taken - 1) rest

-- a text where each call is the body of its macro
abbrev pub once : List Meaning → List ℕ → List ℕ
once names text = once_from names 0 (pieces_of text)

-- a text that is read again (C17 6.10.3.4), so many times, and while it has 1,024 bytes at most
abbrev pub rounds : ℕ → List Meaning → List ℕ → List ℕ
rounds zero names text = text
rounds (suc left) names text =
    if nat_lt 1024 (length (once names text)) then text else rounds left names (once names text)

-- what a call becomes, with the calls in it: it is read 8 times
abbrev pub call_text : List Meaning → List ℕ → List Piece → List ℕ
call_text names name list = rounds 8 names (name ++ flat_map spaced list)
