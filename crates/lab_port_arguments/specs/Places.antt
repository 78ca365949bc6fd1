-- Where a program looks at what `main` is given.
use Rattle.std.specs.Prelude.{ℕ, Bool, ◌==◌, if◌then◌else◌, codes, List, [], ◌∷◌}
use Rattle.std.specs.Str.{bytes_eq}
use Rattle.lab_port_tokens.specs.declared.piece.Piece.{Piece}
use Rattle.lab_port_words.specs.Tables.{class_of}
use Rattle.lab_port_context.specs.declared.context.Context.{Context}
use Rattle.lab_port_context.specs.Contexts.{context_behind, at_first}
use Rattle.lab_port_rules.specs.declared.rule.Rule.TheVariants as rules
use Rattle.lab_port_rules.specs.declared.mark.Mark.{Mark}
use Rattle.lab_port_rules.specs.declared.mark.Mark.TheVariants as marks
use Rattle.lab_port_rules.specs.Marks.{taken_after}
use Rattle.lab_port_arguments.specs.declared.place.Spot.{Spot}
use Rattle.lab_port_arguments.specs.Tallies.{size_to, is_count, is_value, is_replaced}

-- what stands for `main` and its parameters, for the number of arguments, and for the number that one stands for: there
-- are no arguments
abbrev pub main_text : List ℕ → List ℕ
main_text text =
    if bytes_eq text (codes "main") then codes "main(void)"
    else if bytes_eq text (codes "argc") then codes "1"
    else codes "0"

abbrev pub place_mark : Context → Piece → List Piece → Mark
place_mark context piece rest =
    if is_count context piece then marks.Changed rules.Main 0
    else if is_value context piece rest then marks.Changed rules.Main (size_to 5 0 rest)
    else marks.Kept

-- a piece, which the rule of an earlier one takes if so many are still taken
abbrev pub mark_here : Bool → Spot → Piece → List Piece → Mark
mark_here replaced spot piece rest =
    if spot.taken == 0 then (if replaced then place_mark spot.context piece rest else marks.Kept) else marks.Taken

-- the place behind a piece with this mark
abbrev pub spot_behind : Spot → Mark → Piece → Spot
spot_behind spot mark piece = record {
  context = context_behind spot.context (class_of piece);
  taken = taken_after spot.taken mark;
}

abbrev pub first_spot : Spot
first_spot = record { context = at_first; taken = 0 }

-- the marks of the pieces that follow
abbrev pub marks_from : Bool → Spot → List Piece → List Mark
marks_from replaced spot [] = []
marks_from replaced spot (piece ∷ rest) =
    mark_here replaced spot piece rest
    ∷ marks_from replaced (spot_behind spot (mark_here replaced spot piece rest) piece) rest

-- the marks of the pieces of a source: where it looks at what `main` is given
abbrev pub argument_marks : List Piece → List Mark
argument_marks all = marks_from (is_replaced all) first_spot all
