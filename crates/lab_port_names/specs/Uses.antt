-- Where the names of a source are defined, and where they stand.
use Rattle.std.specs.Prelude.{ℕ, Bool, true, false, List, [], ◌∷◌, ◌++◌, ◌-◌, ◌==◌, ◌||◌, ◌&&◌, not, if◌then◌else◌, Option, None, Some}
use Rattle.lab_port_tokens.specs.declared.piece.Piece.{Piece}
use Rattle.lab_port_words.specs.Tables.{class_of}
use Rattle.lab_port_context.specs.declared.context.Line.{Line}
use Rattle.lab_port_context.specs.declared.context.Line.TheVariants as lines
use Rattle.lab_port_context.specs.declared.context.Context.{Context}
use Rattle.lab_port_context.specs.Contexts.{context_behind, at_first}
use Rattle.lab_port_context.specs.Facts.{is_condition}
use Rattle.lab_port_rules.specs.declared.rule.Meaning.{Meaning}
use Rattle.lab_port_rules.specs.declared.rule.Rule.TheVariants as rules
use Rattle.lab_port_rules.specs.declared.mark.Mark.{Mark}
use Rattle.lab_port_rules.specs.declared.mark.Mark.TheVariants as marks
use Rattle.lab_port_rules.specs.Marks.{taken_after}
use Rattle.lab_port_names.specs.declared.definition.Definition.{Definition}
use Rattle.lab_port_names.specs.declared.uses.Spot.{Spot}
use Rattle.lab_port_names.specs.Sights.{is_word}
use Rattle.lab_port_names.specs.Names.{is_known, are_tangled}
use Rattle.lab_port_names.specs.Definitions.{definition_at}

-- a `#` line that is no include, define or pragma stands among the pieces that follow, so that a condition or an `#undef`
-- may decide what a name stands for
abbrev pub has_condition : Context → List Piece → Bool
has_condition context [] = false
has_condition context (piece ∷ rest) =
    is_condition context.line || has_condition (context_behind context (class_of piece)) rest

-- names are written out in code and in directives (C17 6.10.3, OpenMP 5.2 section 3.1)
abbrev pub is_expanded : Line → Bool
is_expanded lines.Fresh = true
is_expanded lines.Code = true
is_expanded lines.Omp = true
is_expanded _ = false

-- a word that stands for a text
abbrev pub word_mark : List Meaning → Context → Piece → Mark
word_mark names context piece =
    if (is_expanded context.line && is_word piece.kind) && is_known piece.text names
    then marks.Changed rules.Use 0
    else marks.Kept

abbrev pub mark_by : Option Definition → List Meaning → Context → Piece → Mark
mark_by None names context piece = word_mark names context piece
mark_by (Some found) names context piece = marks.Changed found.rule found.size

-- what is defined here; nothing in a source whose names are not sure
abbrev pub found_at : List Meaning → Spot → Piece → List Piece → Option Definition
found_at names spot piece rest =
    if spot.is_sure then definition_at names spot.context piece rest else None

-- a piece, which the rule of an earlier one takes if so many are still taken
abbrev pub mark_here : List Meaning → Spot → Piece → List Piece → Mark
mark_here names spot piece rest =
    if spot.taken == 0
    then mark_by (found_at names spot piece rest) names spot.context piece
    else marks.Taken

abbrev pub names_by : Option Definition → List Meaning → List Meaning
names_by None names = names
names_by (Some found) names = names ++ found.names

-- the names that are known behind a piece
abbrev pub names_here : List Meaning → Spot → Piece → List Piece → List Meaning
names_here names spot piece rest =
    if spot.taken == 0 then names_by (found_at names spot piece rest) names else names

abbrev pub spot_behind : Spot → Mark → Piece → Spot
spot_behind spot mark piece = record {
  context = context_behind spot.context (class_of piece);
  taken = taken_after spot.taken mark;
  is_sure = spot.is_sure;
}

abbrev pub first_spot : Bool → Spot
first_spot sure = record { context = at_first; taken = 0; is_sure = sure }

-- the marks of the pieces that follow
abbrev pub marks_from : List Meaning → Spot → List Piece → List Mark
marks_from names spot [] = []
marks_from names spot (piece ∷ rest) =
    mark_here names spot piece rest
    ∷ marks_from (names_here names spot piece rest) (spot_behind spot (mark_here names spot piece rest) piece) rest

-- the names that are known behind the pieces that follow
abbrev pub names_from : List Meaning → Spot → List Piece → List Meaning
names_from names spot [] = names
names_from names spot (piece ∷ rest) =
    names_from (names_here names spot piece rest) (spot_behind spot (mark_here names spot piece rest) piece) rest

-- each name stands for one text wherever it is used
abbrev pub is_sure : List Piece → Bool
is_sure pieces =
    not (has_condition at_first pieces) && not (are_tangled (names_from [] (first_spot true) pieces))

-- the marks of the pieces of a source: where names are defined and where they stand
abbrev pub name_marks : List Piece → List Mark
name_marks pieces = marks_from [] (first_spot (is_sure pieces)) pieces

-- the names of a source that are written out
abbrev pub names_of : List Piece → List Meaning
names_of pieces = names_from [] (first_spot (is_sure pieces)) pieces
