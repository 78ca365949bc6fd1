-- Which lines of a source go with its conditions.
use Rattle.std.specs.Prelude.{ℕ, Bool, true, false, ◌+◌, ◌==◌, ◌||◌, ◌&&◌, not, if◌then◌else◌, nat_lt, take, List, [], ◌∷◌}
use Rattle.lab_port_tokens.specs.declared.piece.Piece.{Piece}
use Rattle.lab_port_words.specs.declared.class.Class.{Class}
use Rattle.lab_port_words.specs.declared.class.Class.TheVariants as classes
use Rattle.lab_port_words.specs.declared.class.Sign.TheVariants as signs
use Rattle.lab_port_words.specs.Classes.{is_gap}
use Rattle.lab_port_words.specs.Tables.{class_of}
use Rattle.lab_port_context.specs.declared.context.Line.{Line}
use Rattle.lab_port_context.specs.declared.context.Line.TheVariants as lines
use Rattle.lab_port_context.specs.declared.context.Context.{Context}
use Rattle.lab_port_context.specs.Contexts.{context_behind, at_first}
use Rattle.lab_port_rules.specs.declared.rule.Meaning.{Meaning}
use Rattle.lab_port_rules.specs.declared.rule.Rule.TheVariants as rules
use Rattle.lab_port_rules.specs.declared.mark.Mark.{Mark}
use Rattle.lab_port_rules.specs.declared.mark.Mark.TheVariants as marks
use Rattle.lab_port_rules.specs.Marks.{taken_after}
use Rattle.lab_port_conditions.specs.declared.kind.Kind.{Kind}
use Rattle.lab_port_conditions.specs.declared.place.Spot.{Spot}
use Rattle.lab_port_conditions.specs.declared.state.State.{State}
use Rattle.lab_port_conditions.specs.Kinds.{kind_of}
use Rattle.lab_port_conditions.specs.States.{behind_kind, names_behind, is_turn}

abbrev pub is_line_end : Class → Bool
is_line_end classes.LineEnd = true
is_line_end _ = false

-- how many pieces stand before the end of the line, besides these
abbrev pub line_size : ℕ → List Piece → ℕ
line_size passed [] = passed
line_size passed (piece ∷ rest) = if is_line_end (class_of piece) then passed else line_size (passed + 1) rest

-- the pieces before the end of the line
abbrev pub line_of : List Piece → List Piece
line_of rest = take (line_size 0 rest) rest

abbrev pub is_hash : Class → Bool
is_hash (classes.Sign signs.Hash) = true
is_hash _ = false

abbrev pub is_fresh : Line → Bool
is_fresh lines.Fresh = true
is_fresh _ = false

-- a `#` line begins here
abbrev pub begins_line : Context → Piece → Bool
begins_line context piece = is_fresh context.line && is_hash (class_of piece)

-- what the line is whose `#` stands before these pieces
unfoldable pub kind_here : List Meaning → Spot → List Piece → Kind
kind_here names spot rest = kind_of spot.state.has_unknown names (line_of rest)

-- what the conditions leave behind a piece
abbrev pub state_behind : List Meaning → Spot → Piece → List Piece → State
state_behind names spot piece rest =
    if begins_line spot.context piece then behind_kind spot.state (kind_here names spot rest) else spot.state

-- the macros that are defined behind a piece
abbrev pub macros_behind : List Meaning → Spot → Piece → List Piece → List Meaning
macros_behind names spot piece rest =
    if begins_line spot.context piece
    then names_behind names spot.state (kind_here names spot rest) (line_of rest)
    else names

abbrev pub spot_behind : List Meaning → Spot → Mark → Piece → List Piece → Spot
spot_behind names spot mark piece rest = record {
  context = context_behind spot.context (class_of piece);
  state = state_behind names spot piece rest;
  taken = taken_after spot.taken mark;
}

abbrev pub first_spot : Spot
first_spot = record {
  context = at_first;
  state = record { skipped = 0; opened = 0; is_sure = true; has_unknown = false };
  taken = 0;
}

-- what the conditions leave behind the pieces that follow
abbrev pub state_from : List Meaning → Spot → List Piece → State
state_from names spot [] = spot.state
state_from names spot (piece ∷ rest) =
    state_from (macros_behind names spot piece rest) (spot_behind names spot marks.Kept piece rest) rest

-- each line is understood, and each condition has its end
abbrev pub is_whole : State → Bool
is_whole state = state.is_sure && (state.skipped == 0 && state.opened == 0)

abbrev pub is_decided : List Piece → Bool
is_decided all = is_whole (state_from [] first_spot all)

-- the line here is left out: it has a condition, or a condition leaves it out
abbrev pub is_left_out : List Meaning → Spot → Piece → List Piece → Bool
is_left_out names spot piece rest =
    nat_lt 0 spot.state.skipped
    || (begins_line spot.context piece && is_turn (kind_here names spot rest))

abbrev pub line_mark : List Meaning → Spot → Piece → List Piece → Mark
line_mark names spot piece rest =
    if not (is_gap (class_of piece)) && is_left_out names spot piece rest
    then marks.Changed rules.Macro (line_size 0 rest)
    else marks.Kept

-- a piece of a source whose conditions are decided or not, which an earlier one takes if so many are still taken
abbrev pub mark_here : Bool → List Meaning → Spot → Piece → List Piece → Mark
mark_here decided names spot piece rest =
    if spot.taken == 0 then (if decided then line_mark names spot piece rest else marks.Kept) else marks.Taken

-- the marks of the pieces that follow
abbrev pub marks_from : Bool → List Meaning → Spot → List Piece → List Mark
marks_from decided names spot [] = []
marks_from decided names spot (piece ∷ rest) =
    mark_here decided names spot piece rest
    ∷ marks_from decided (macros_behind names spot piece rest)
    (spot_behind names spot (mark_here decided names spot piece rest) piece rest) rest

-- the marks of the pieces of a source: which lines go with its conditions
abbrev pub condition_marks : List Piece → List Mark
condition_marks all = marks_from (is_decided all) [] first_spot all
