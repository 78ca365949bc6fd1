-- A macro with parameters (C17 6.10.3p10), where each of its calls is written out.
use Rattle.std.specs.Prelude.{ℕ, Bool, true, false, ◌+◌, ◌==◌, ◌||◌, ◌&&◌, not, if◌then◌else◌, nat_lt, length, drop, count_by, flat_map, codes, Option, None, Some, List, [], ◌∷◌}
use Rattle.std.specs.Str.{bytes_eq}
use Rattle.std.specs.List.{list_any}
use Rattle.lab_port_tokens.specs.declared.piece.Piece.{Piece}
use Rattle.lab_port_words.specs.declared.class.Class.{Class}
use Rattle.lab_port_words.specs.declared.class.Class.TheVariants as classes
use Rattle.lab_port_words.specs.declared.class.Sign.TheVariants as signs
use Rattle.lab_port_words.specs.Classes.{is_gap, is_word}
use Rattle.lab_port_words.specs.Tables.{class_of}
use Rattle.lab_port_context.specs.declared.context.Line.{Line}
use Rattle.lab_port_context.specs.declared.context.Line.TheVariants as lines
use Rattle.lab_port_context.specs.declared.context.Context.{Context}
use Rattle.lab_port_context.specs.Ahead.{is_open, is_close, is_comma, nth_text}
use Rattle.lab_port_rules.specs.declared.rule.Meaning.{Meaning}
use Rattle.lab_port_names.specs.Macros.{definition_in}
use Rattle.lab_port_calls.specs.Lists.{spaced}

abbrev pub is_line_end : Class → Bool
is_line_end classes.LineEnd = true
is_line_end _ = false

-- how many pieces stand before the end of the line, besides these
abbrev pub line_size : ℕ → List Piece → ℕ
line_size passed [] = passed
line_size passed (piece ∷ rest) = if is_line_end (class_of piece) then passed else line_size (passed + 1) rest

abbrev pub is_hash : Class → Bool
is_hash (classes.Sign signs.Hash) = true
is_hash _ = false

abbrev pub is_fresh : Line → Bool
is_fresh lines.Fresh = true
is_fresh _ = false

-- the operators of macros
abbrev pub is_operator : Piece → Bool
is_operator piece = bytes_eq piece.text (codes "#") || bytes_eq piece.text (codes "##")

-- what may stand among parameters
abbrev pub is_parameter : Class → Bool
is_parameter class = is_comma class || (is_gap class || is_word class)

-- words, parted by commas, and a `)`
abbrev pub closes_parameters : List Piece → Bool
closes_parameters [] = false
closes_parameters (piece ∷ rest) =
    is_close (class_of piece) || (is_parameter (class_of piece) && closes_parameters rest)

-- the list of parameters has its `(` directly behind the name
abbrev pub has_parameters : List Piece → Bool
has_parameters [] = false
has_parameters (piece ∷ rest) = is_open (class_of piece) && closes_parameters rest

-- the name of a macro with parameters, its list of them, and a body without operators of macros
abbrev pub is_function : List Piece → Bool
is_function [] = false
is_function (name ∷ list) = (is_word (class_of name) && has_parameters list) && not (list_any is_operator list)

-- a macro with parameters is defined behind this `#`
abbrev pub defines : Context → Piece → List Piece → Bool
defines context piece rest =
    (is_fresh context.line && is_hash (class_of piece)) && is_function (definition_in rest)

abbrev pub is_nth : ℕ → List ℕ → List Piece → Bool
is_nth n text rest = bytes_eq (nth_text n rest) text

-- how often a macro with this name is called, besides so many calls (C17 6.10.3p10)
abbrev pub calls_from : ℕ → List ℕ → List Piece → ℕ
calls_from count name [] = count
calls_from count name (piece ∷ rest) =
    calls_from (if bytes_eq piece.text name && is_nth 0 (codes "(") rest then count + 1 else count) name rest

-- how often the name stands in a source
abbrev pub places_of : List ℕ → List Piece → ℕ
places_of name all = count_by (λ piece. bytes_eq piece.text name) all

-- each other place of the name that is defined behind a `#` is a call behind the line: none stands before it, in its own
-- body, or without a list
abbrev pub is_called : List Piece → List Piece → Bool
is_called rest all =
    places_of (nth_text 0 (definition_in rest)) all
    == calls_from 1 (nth_text 0 (definition_in rest)) (drop (line_size 0 rest) rest)

-- the macro with its parameters and its body; white space and comments are a space
abbrev pub function_in : List Piece → Meaning
function_in [] = record { name = []; text = [] }
function_in (name ∷ list) = record { name = name.text; text = flat_map spaced list }

-- parameters and a body have 512 bytes at most
abbrev pub short_function : Meaning → Option Meaning
short_function found = if nat_lt 512 (length found.text) then None else Some found
