-- What is written for a statement that prints a text which it chooses: a `printf` for each text.
use Rattle.std.specs.Prelude.{ℕ, Bool, true, false, ◌+◌, ◌-◌, ◌==◌, ◌||◌, ◌&&◌, not, if◌then◌else◌, nat_lt, codes, length, take, drop, Option, None, Some, List, [], ◌∷◌, ◌++◌}
use Rattle.lab_port_tokens.specs.declared.piece.Piece.{Piece}
use Rattle.lab_port_words.specs.declared.class.Class.{Class}
use Rattle.lab_port_words.specs.Classes.{is_gap}
use Rattle.lab_port_words.specs.Tables.{class_of}
use Rattle.lab_port_context.specs.Contexts.{deeper}
use Rattle.lab_port_context.specs.Ahead.{is_close, is_comma, nth_text}
use Rattle.lab_port_prints.specs.declared.format.Slot.{Slot}
use Rattle.lab_port_prints.specs.declared.printed.Want.{Want}
use Rattle.lab_port_prints.specs.declared.printed.Want.TheVariants as wants
use Rattle.lab_port_prints.specs.declared.statement.Part.{Part}
use Rattle.lab_port_prints.specs.declared.statement.Part.TheVariants as parts
use Rattle.lab_port_prints.specs.declared.statement.Item.{Item}
use Rattle.lab_port_prints.specs.declared.statement.Item.TheVariants as items
use Rattle.lab_port_prints.specs.declared.statement.Statement.{Statement}
use Rattle.lab_port_prints.specs.Formats.{slot_of}
use Rattle.lab_port_prints.specs.Statements.{is_text, item_of, first_statement, statement_behind, choices_of}

abbrev pub is_arguments : Part → Bool
is_arguments parts.Arguments = true
is_arguments _ = false

abbrev pub is_behind_format : Part → Bool
is_behind_format parts.Format = true
is_behind_format _ = false

abbrev pub is_plain : Item → Bool
is_plain items.Other = true
is_plain _ = false

-- in the argument that is a text, behind so many of those that it chooses from
abbrev pub is_choosing : ℕ → ℕ → Statement → Bool
is_choosing number wanted s = (is_arguments s.part && s.number == wanted) && s.choices == number

-- a token of the condition on which the text with this number is chosen
abbrev pub is_of_condition : ℕ → ℕ → Statement → Piece → Bool
is_of_condition number wanted s piece = is_choosing number wanted s && is_plain (item_of s.depth piece)

-- the text with this number
abbrev pub is_choice : ℕ → ℕ → Statement → Piece → Bool
is_choice number wanted s piece = is_choosing number wanted s && is_text (class_of piece)

-- a comma between arguments, or the `)` behind them
abbrev pub ends_argument : Statement → Class → Bool
ends_argument s class = s.depth == 0 && (is_comma class || is_close class)

-- the comma before an argument other than the text, or a token of one
abbrev pub is_of_others : ℕ → Statement → Class → Bool
is_of_others wanted s class =
    if is_behind_format s.part then not (wanted == 0)
    else if not (is_arguments s.part) then false
    else if ends_argument s class then is_comma class && not (deeper s.number == wanted)
    else not (s.number == wanted)

abbrev pub is_wanted : Want → ℕ → Statement → Piece → Bool
is_wanted (wants.Condition number) wanted s piece = is_of_condition number wanted s piece
is_wanted (wants.Choice number) wanted s piece = is_choice number wanted s piece
is_wanted wants.Others wanted s piece = is_of_others wanted s (class_of piece)

-- what stands between the quotes of a text
abbrev pub inside : List ℕ → List ℕ
inside text = take (length text - 1 - 1) (drop 1 text)

-- what is written for a piece that is wanted: of a text what stands between its quotes
abbrev pub wanted_text : Want → List ℕ → List ℕ
wanted_text (wants.Choice number) text = inside text
wanted_text want text = 32 ∷ text

abbrev pub part_text : Want → ℕ → Statement → Piece → List ℕ
part_text want wanted s piece =
    if not (is_gap (class_of piece)) && is_wanted want wanted s piece then wanted_text want piece.text else []

abbrev pub parts_from : Want → ℕ → Statement → List Piece → List ℕ
parts_from want wanted s [] = []
parts_from want wanted s (piece ∷ rest) =
    part_text want wanted s piece ++ parts_from want wanted (statement_behind wanted s piece) rest

-- what is wanted of the pieces of a statement
abbrev pub parts_of : Want → ℕ → List Piece → List ℕ
parts_of want wanted pieces = parts_from want wanted first_statement pieces

-- a format with the text with this number in place of its first `%s`
abbrev pub format_with : ℕ → Slot → List Piece → List ℕ
format_with number slot pieces =
    take (slot.end - 2) (nth_text 1 pieces) ++ parts_of (wants.Choice number) slot.number pieces
    ++ drop slot.end (nth_text 1 pieces)

-- a `printf` of the text with this number
abbrev pub printed : ℕ → Slot → List Piece → List ℕ
printed number slot pieces =
    codes " printf(" ++ format_with number slot pieces ++ parts_of wants.Others slot.number pieces ++ codes ");"

-- the same where its condition holds
abbrev pub branch : ℕ → Slot → List Piece → List ℕ
branch number slot pieces =
    codes " if (" ++ parts_of (wants.Condition number) slot.number pieces ++ codes ")"
    ++ printed number slot pieces ++ codes " else"

-- the same, if there are more texts than this one
abbrev pub branch_of : ℕ → Slot → List Piece → List ℕ
branch_of number slot pieces =
    if nat_lt (number + 1) (choices_of slot.number pieces) then branch number slot pieces else []

abbrev pub text_by : Option Slot → List Piece → List ℕ
text_by None pieces = []
text_by (Some slot) pieces =
    codes "{" ++ branch_of 0 slot pieces ++ branch_of 1 slot pieces ++ branch_of 2 slot pieces
    ++ printed (choices_of slot.number pieces - 1) slot pieces ++ codes " }"

-- what takes the place of a statement with these pieces behind `printf`
abbrev pub statement_text : List Piece → List ℕ
statement_text pieces = text_by (slot_of (nth_text 1 pieces)) pieces
