-- Where lengths of arrays become numbers, and where two dimensions become one.
use Rattle.std.specs.Prelude.{ℕ, Bool, ◌==◌, ◌&&◌, not, if◌then◌else◌, codes, Option, None, Some, List, [], ◌∷◌}
use Rattle.lab_port_tokens.specs.declared.piece.Piece.{Piece}
use Rattle.lab_port_words.specs.declared.class.Class.{Class}
use Rattle.lab_port_words.specs.Tables.{class_of}
use Rattle.lab_port_context.specs.Contexts.{context_behind, at_first, is_code}
use Rattle.lab_port_rules.specs.declared.rule.Rule.TheVariants as rules
use Rattle.lab_port_rules.specs.declared.mark.Mark.{Mark}
use Rattle.lab_port_rules.specs.declared.mark.Mark.TheVariants as marks
use Rattle.lab_port_rules.specs.Marks.{taken_after}
use Rattle.lab_port_rules.specs.Libraries.{changed_by}
use Rattle.lab_port_names.specs.Uses.{has_condition}
use Rattle.lab_port_arrays.specs.declared.constant.Constant.{Constant}
use Rattle.lab_port_arrays.specs.declared.shape.Shape.{Shape}
use Rattle.lab_port_arrays.specs.declared.place.Spot.{Spot}
use Rattle.lab_port_arrays.specs.Constants.{constant_at, is_nth}
use Rattle.lab_port_arrays.specs.Brackets.{bracket_size, pair_size}
use Rattle.lab_port_arrays.specs.Declarations.{is_name, outside, declared_behind, is_declarator}
use Rattle.lab_port_arrays.specs.Shapes.{shape_of, is_flat, lengths_at, total_of, has_pair_of}

-- an array with a length of more than one token
abbrev pub is_length : Constant → List Piece → Bool
is_length constant rest = not (constant.tokens == 3) && has_pair_of (bracket_size rest) rest

abbrev pub length_by : Option Constant → List Piece → Mark
length_by None rest = marks.Kept
length_by (Some constant) rest =
    if is_length constant rest then changed_by (bracket_size rest) (rules.Length constant.number) else marks.Kept

abbrev pub flat_by : Option ℕ → List Piece → Mark
flat_by None rest = marks.Kept
flat_by (Some total) rest = changed_by (pair_size rest) (rules.FlatArray total)

abbrev pub declarator_mark : Shape → List Piece → List Piece → Mark
declarator_mark shape rest all =
    if is_flat shape then flat_by (total_of (lengths_at rest all)) rest else length_by (constant_at rest all) rest

abbrev pub use_mark : Shape → List Piece → Mark
use_mark shape rest =
    if is_flat shape then changed_by (pair_size rest) (rules.FlatIndex shape.columns) else marks.Kept

-- a name before brackets
abbrev pub array_mark : Spot → Piece → List Piece → List Piece → Mark
array_mark spot piece rest all =
    if is_declarator spot.declared spot.context (class_of piece) then declarator_mark (shape_of piece.text all) rest all
    else use_mark (shape_of piece.text all) rest

abbrev pub is_array : Spot → Class → List Piece → Bool
is_array spot class rest =
    (spot.is_sure && is_code spot.context.line) && (is_name class && is_nth 0 (codes "[") rest)

abbrev pub mark_at : Spot → Piece → List Piece → List Piece → Mark
mark_at spot piece rest all =
    if is_array spot (class_of piece) rest then array_mark spot piece rest all else marks.Kept

-- a piece, which the rule of an earlier one takes if so many are still taken
abbrev pub mark_here : Spot → Piece → List Piece → List Piece → Mark
mark_here spot piece rest all = if spot.taken == 0 then mark_at spot piece rest all else marks.Taken

-- the place behind a piece with this mark
abbrev pub spot_behind : Spot → Mark → Piece → Spot
spot_behind spot mark piece = record {
  context = context_behind spot.context (class_of piece);
  declared = declared_behind spot.declared spot.context (class_of piece);
  taken = taken_after spot.taken mark;
  is_sure = spot.is_sure;
}

abbrev pub first_spot : List Piece → Spot
first_spot all =
    record { context = at_first; declared = outside; taken = 0; is_sure = not (has_condition at_first all) }

-- the marks of the pieces that follow, which stand in a source
abbrev pub marks_from : List Piece → Spot → List Piece → List Mark
marks_from all spot [] = []
marks_from all spot (piece ∷ rest) =
    mark_here spot piece rest all ∷ marks_from all (spot_behind spot (mark_here spot piece rest all) piece) rest

-- the marks of the pieces of a source: where its arrays get other lengths or indices
abbrev pub array_marks : List Piece → List Mark
array_marks all = marks_from all (first_spot all) all
