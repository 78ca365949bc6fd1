-- The macro that a `#define` names (C17 6.10.3), where its body is written out.
use Rattle.std.specs.Prelude.{ℕ, Bool, true, false, List, [], ◌∷◌, ◌++◌, ◌+◌, ◌==◌, ◌||◌, ◌&&◌, not, if◌then◌else◌, nat_lt, length, codes, take, flat_map, count_by, Option, None, Some}
use Rattle.std.specs.Str.{bytes_eq}
use Rattle.std.specs.List.{list_any}
use Rattle.lab_port_tokens.specs.declared.piece.Piece.{Piece}
use Rattle.lab_port_context.specs.declared.context.Line.{Line}
use Rattle.lab_port_context.specs.declared.context.Line.TheVariants as lines
use Rattle.lab_port_context.specs.declared.context.Context.{Context}
use Rattle.lab_port_rules.specs.declared.rule.Meaning.{Meaning}
use Rattle.lab_port_rules.specs.declared.rule.Rule.TheVariants as rules
use Rattle.lab_port_names.specs.declared.definition.Definition.{Definition}
use Rattle.lab_port_names.specs.Sights.{is_space, is_word, is_number, is_sign, is_named, line_pieces, behind_spaces}
use Rattle.lab_port_names.specs.Names.{is_known, meaning_of}

-- a macro with parameters has its `(` directly behind its name
abbrev pub begins_list : List Piece → Bool
begins_list [] = false
begins_list (piece ∷ rest) = is_sign (codes "(") piece

-- behind the word `define`: the name of the macro, and its body
abbrev pub behind_define : List Piece → List Piece
behind_define [] = []
behind_define (word ∷ rest) = if is_named (codes "define") word then behind_spaces rest else []

-- the name and the body of the macro that the line defines whose `#` stands before these pieces
abbrev pub definition_in : List Piece → List Piece
definition_in rest = behind_define (behind_spaces (take (line_pieces 0 rest) rest))

-- the operators of macros
abbrev pub is_operator : Piece → Bool
is_operator piece = is_sign (codes "#") piece || is_sign (codes "##") piece

-- what a macro of the subset has none of: a piece that is neither white space nor a number
abbrev pub is_other : Piece → Bool
is_other piece = not (is_space piece.kind || is_number piece.kind)

-- a body that is more than a number, which the subset has, and that has no operator of macros
abbrev pub is_written_out : List Piece → Bool
is_written_out body = list_any is_other body && not (list_any is_operator body)

-- a macro without parameters whose body is written out
abbrev pub is_macro : List Piece → Bool
is_macro [] = false
is_macro (name ∷ body) = (is_word name.kind && not (begins_list body)) && is_written_out body

-- what a piece of a body is: a space for white space and comments, and for a name that is known what stands for it
abbrev pub body_part : List Meaning → Piece → List ℕ
body_part names piece =
    if is_space piece.kind then 32 ∷ []
    else if is_word piece.kind then meaning_of piece.text names
    else piece.text

abbrev pub body_text : List Meaning → List Piece → List ℕ
body_text names body = flat_map (body_part names) body

-- what stands for a macro with this body: a space on each side keeps its tokens apart from those around
abbrev pub spaced_text : List Meaning → List Piece → List ℕ
spaced_text names body = codes " " ++ body_text names (behind_spaces body) ++ codes " "

abbrev pub macro_in : List Meaning → List Piece → Meaning
macro_in names [] = record { name = []; text = [] }
macro_in names (name ∷ body) = record { name = name.text; text = spaced_text names body }

abbrev pub is_fresh : Line → Bool
is_fresh lines.Fresh = true
is_fresh _ = false

-- a line begins here that defines a macro which is written out
abbrev pub defines : Context → Piece → List Piece → Bool
defines context piece rest =
    (is_fresh context.line && is_sign (codes "#") piece) && is_macro (definition_in rest)

-- the line of a macro, which has so many pieces behind its `#`, and what it gives a meaning to
abbrev pub macro_line : ℕ → List Meaning → Definition
macro_line size found = record { rule = rules.Macro; size = size; names = found }

-- C17 6.10.3p2: a macro may be defined again as the same
abbrev pub macro_again : List Meaning → ℕ → Meaning → Option Definition
macro_again names size macro =
    if bytes_eq (meaning_of macro.name names) macro.text then Some (macro_line size []) else None

-- a new macro has a text of 256 bytes at most
abbrev pub macro_by : List Meaning → ℕ → Meaning → Option Definition
macro_by names size macro =
    if is_known macro.name names then macro_again names size macro
    else if nat_lt 256 (length macro.text) then None
    else Some (macro_line size (macro ∷ []))

-- the macro that is defined here
abbrev pub macro_at : List Meaning → Context → Piece → List Piece → Option Definition
macro_at names context piece rest =
    if defines context piece rest
    then macro_by names (line_pieces 0 rest) (macro_in names (definition_in rest))
    else None
