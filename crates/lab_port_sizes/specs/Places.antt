-- Where the number of elements of an array is asked for.
use Rattle.std.specs.Prelude.{ℕ, Bool, true, false, ◌==◌, ◌&&◌, not, if◌then◌else◌, nat_lt, length, codes, Option, None, Some, List, [], ◌∷◌, ◌++◌}
use Rattle.std.specs.Str.{bytes_eq}
use Rattle.lab_port_tokens.specs.declared.piece.Piece.{Piece}
use Rattle.lab_port_words.specs.declared.class.Class.{Class}
use Rattle.lab_port_words.specs.declared.class.Class.TheVariants as classes
use Rattle.lab_port_words.specs.declared.class.Sign.{Sign}
use Rattle.lab_port_words.specs.declared.class.Sign.TheVariants as signs
use Rattle.lab_port_words.specs.declared.class.Word.TheVariants as words
use Rattle.lab_port_words.specs.Tables.{class_of}
use Rattle.lab_port_context.specs.Contexts.{context_behind, at_first, is_code, deeper}
use Rattle.lab_port_rules.specs.declared.rule.Meaning.{Meaning}
use Rattle.lab_port_rules.specs.declared.rule.Rule.TheVariants as rules
use Rattle.lab_port_rules.specs.declared.mark.Mark.{Mark}
use Rattle.lab_port_rules.specs.declared.mark.Mark.TheVariants as marks
use Rattle.lab_port_rules.specs.Marks.{taken_after}
use Rattle.lab_port_names.specs.Uses.{has_condition}
use Rattle.lab_port_sizes.specs.declared.place.Spot.{Spot}
use Rattle.lab_port_sizes.specs.declared.shape.Asked.{Asked}
use Rattle.lab_port_sizes.specs.Shapes.{size_to, asked_at, name_by}
use Rattle.lab_port_sizes.specs.Lengths.{length_of}

abbrev pub is_before_operand : Sign → Bool
is_before_operand signs.Open = true
is_before_operand signs.Close = true
is_before_operand signs.OpenBracket = true
is_before_operand signs.Semicolon = true
is_before_operand signs.Comma = true
is_before_operand signs.Colon = true
is_before_operand signs.Changes = true
is_before_operand signs.Less = true
is_before_operand signs.Greater = true
is_before_operand _ = false

-- no operator stands here that binds as a division does
abbrev pub begins_quotient : Class → Bool
begins_quotient (classes.Sign sign) = is_before_operand sign
begins_quotient (classes.Word words.Return) = true
begins_quotient _ = false

-- `sizeof`, in code whose macros no condition of `cpp` decides, which is not the first 32 times
abbrev pub is_question : Spot → Piece → Bool
is_question spot piece =
    ((spot.is_sure && nat_lt spot.asked 32) && is_code spot.context.line)
    && (bytes_eq piece.text (codes "sizeof") && begins_quotient spot.context.last)

-- the length of the array whose elements are counted before these pieces; nothing where that is not known
abbrev pub length_here : List Piece → List Piece → List ℕ
length_here rest all = length_of (name_by (asked_at rest) rest) all

abbrev pub mark_by : Option Asked → List Piece → Mark
mark_by None rest = marks.Kept
mark_by (Some asked) rest = marks.Changed rules.UnsignedSuffix (size_to asked.end 0 rest)

abbrev pub mark_at : Spot → Piece → List Piece → List Piece → Mark
mark_at spot piece rest all =
    if is_question spot piece && nat_lt 0 (length (length_here rest all)) then mark_by (asked_at rest) rest
    else marks.Kept

-- a piece, which the rule of an earlier one takes if so many are still taken
abbrev pub mark_here : Spot → Piece → List Piece → List Piece → Mark
mark_here spot piece rest all = if spot.taken == 0 then mark_at spot piece rest all else marks.Taken

abbrev pub found_in : List Piece → List Piece → Meaning
found_in rest all = record { name = name_by (asked_at rest) rest; text = length_here rest all }

-- the arrays whose lengths are known behind a piece with this mark
abbrev pub names_with : List Meaning → Mark → List Piece → List Piece → List Meaning
names_with names (marks.Changed rule size) rest all = names ++ (found_in rest all ∷ [])
names_with names _ rest all = names

-- the place behind a piece with this mark
abbrev pub spot_behind : Spot → Mark → Piece → Spot
spot_behind spot mark piece = record {
  context = context_behind spot.context (class_of piece);
  taken = taken_after spot.taken mark;
  asked = if is_question spot piece then deeper spot.asked else spot.asked;
  is_sure = spot.is_sure;
}

abbrev pub first_spot : List Piece → Spot
first_spot all = record { context = at_first; taken = 0; asked = 0; is_sure = not (has_condition at_first all) }

-- the marks of the pieces that follow, which stand in a source
abbrev pub marks_from : List Piece → Spot → List Piece → List Mark
marks_from all spot [] = []
marks_from all spot (piece ∷ rest) =
    mark_here spot piece rest all ∷ marks_from all (spot_behind spot (mark_here spot piece rest all) piece) rest

-- the arrays whose lengths are known behind the pieces that follow
abbrev pub names_from : List Piece → List Meaning → Spot → List Piece → List Meaning
names_from all names spot [] = names
names_from all names spot (piece ∷ rest) =
    names_from all (names_with names (mark_here spot piece rest all) rest all)
    (spot_behind spot (mark_here spot piece rest all) piece) rest

-- the marks of the pieces of a source: where the elements of an array are counted
abbrev pub size_marks : List Piece → List Mark
size_marks all = marks_from all (first_spot all) all

-- the arrays of a source whose elements are counted, with their lengths
abbrev pub sizes_of : List Piece → List Meaning
sizes_of all = names_from all [] (first_spot all) all

-- what stands for a question behind whose `sizeof` these pieces stand
abbrev pub length_by : List Meaning → List ℕ → List ℕ
length_by [] name = []
length_by (next ∷ rest) name = if bytes_eq next.name name then next.text else length_by rest name

abbrev pub length_text : List Meaning → List Piece → List ℕ
length_text names taken = length_by names (name_by (asked_at taken) taken)
