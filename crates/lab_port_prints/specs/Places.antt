-- Where a statement prints a text that it chooses.
use Rattle.std.specs.Prelude.{ℕ, Bool, ◌==◌, ◌&&◌, if◌then◌else◌, codes, Option, None, Some, List, [], ◌∷◌}
use Rattle.std.specs.Str.{bytes_eq}
use Rattle.lab_port_tokens.specs.declared.piece.Piece.{Piece}
use Rattle.lab_port_words.specs.Tables.{class_of}
use Rattle.lab_port_context.specs.declared.context.Context.{Context}
use Rattle.lab_port_context.specs.Contexts.{context_behind, at_first, is_code}
use Rattle.lab_port_context.specs.Ahead.{nth_text}
use Rattle.lab_port_rules.specs.declared.rule.Rule.TheVariants as rules
use Rattle.lab_port_rules.specs.declared.mark.Mark.{Mark}
use Rattle.lab_port_rules.specs.declared.mark.Mark.TheVariants as marks
use Rattle.lab_port_rules.specs.Marks.{taken_after}
use Rattle.lab_port_rules.specs.Libraries.{begins_statement, changed_by}
use Rattle.lab_port_prints.specs.declared.format.Slot.{Slot}
use Rattle.lab_port_prints.specs.declared.place.Spot.{Spot}
use Rattle.lab_port_prints.specs.Formats.{slot_of}
use Rattle.lab_port_prints.specs.Statements.{first_statement, statement_end}

abbrev pub size_by : Option Slot → List Piece → Option ℕ
size_by None rest = None
size_by (Some slot) rest = statement_end 0 slot.number first_statement rest

-- how many pieces follow a `printf` up to its `;`, and with it, where it prints a text that it chooses
abbrev pub statement_size : List Piece → Option ℕ
statement_size rest = size_by (slot_of (nth_text 1 rest)) rest

-- a statement begins here with `printf`
abbrev pub begins_print : Context → Piece → Bool
begins_print context piece =
    (is_code context.line && begins_statement context) && bytes_eq piece.text (codes "printf")

abbrev pub mark_at : Context → Piece → List Piece → Mark
mark_at context piece rest =
    if begins_print context piece then changed_by (statement_size rest) rules.Text else marks.Kept

-- a piece, which the rule of an earlier one takes if so many are still taken
abbrev pub mark_here : Spot → Piece → List Piece → Mark
mark_here spot piece rest = if spot.taken == 0 then mark_at spot.context piece rest else marks.Taken

-- the place behind a piece with this mark
abbrev pub spot_behind : Spot → Mark → Piece → Spot
spot_behind spot mark piece = record {
  context = context_behind spot.context (class_of piece);
  taken = taken_after spot.taken mark;
}

abbrev pub first_spot : Spot
first_spot = record { context = at_first; taken = 0 }

-- the marks of the pieces that follow
abbrev pub marks_from : Spot → List Piece → List Mark
marks_from spot [] = []
marks_from spot (piece ∷ rest) =
    mark_here spot piece rest ∷ marks_from (spot_behind spot (mark_here spot piece rest) piece) rest

-- the marks of the pieces of a source: where its statements print texts that they choose
abbrev pub print_marks : List Piece → List Mark
print_marks pieces = marks_from first_spot pieces
