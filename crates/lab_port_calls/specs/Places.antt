-- Where macros with parameters are defined, and where they are called.
use Rattle.std.specs.Prelude.{Bool, true, false, ◌==◌, ◌&&◌, not, if◌then◌else◌, nat_lt, take, Option, None, Some, List, [], ◌∷◌, ◌++◌}
use Rattle.lab_port_tokens.specs.declared.piece.Piece.{Piece}
use Rattle.lab_port_words.specs.Tables.{class_of}
use Rattle.lab_port_context.specs.declared.context.Line.{Line}
use Rattle.lab_port_context.specs.declared.context.Line.TheVariants as lines
use Rattle.lab_port_context.specs.Contexts.{context_behind, at_first, deeper, is_code}
use Rattle.lab_port_rules.specs.declared.rule.Meaning.{Meaning}
use Rattle.lab_port_rules.specs.declared.rule.Rule.TheVariants as rules
use Rattle.lab_port_rules.specs.declared.mark.Mark.{Mark}
use Rattle.lab_port_rules.specs.declared.mark.Mark.TheVariants as marks
use Rattle.lab_port_rules.specs.Marks.{taken_after}
use Rattle.lab_port_names.specs.Macros.{definition_in}
use Rattle.lab_port_names.specs.Uses.{has_condition}
use Rattle.lab_port_calls.specs.declared.list.Arguments.{Arguments}
use Rattle.lab_port_calls.specs.declared.place.Spot.{Spot}
use Rattle.lab_port_calls.specs.Lists.{list_of}
use Rattle.lab_port_calls.specs.Functions.{line_size, defines, is_called, function_in, short_function}
use Rattle.lab_port_calls.specs.Written.{is_known}

-- calls are written out in code, in directives and in the bodies of other macros
abbrev pub is_expanded : Line → Bool
is_expanded lines.Fresh = true
is_expanded lines.Code = true
is_expanded lines.Define = true
is_expanded lines.Omp = true
is_expanded _ = false

-- the pieces that a list may have: of the line, where it is a `#` line, and 1,024 at most
abbrev pub in_sight : Line → List Piece → List Piece
in_sight line rest = if is_code line then take 1024 rest else take 1024 (take (line_size 0 rest) rest)

-- one of the first 64 macros with parameters, which is called wherever its name stands, where no condition of `cpp` may
-- decide what it is
abbrev pub may_define : Spot → Piece → List Piece → List Piece → Bool
may_define spot piece rest all =
    ((spot.is_sure && nat_lt spot.defined 64) && defines spot.context piece rest) && is_called rest all

-- the macro that is defined here, if its calls are written out
abbrev pub found_at : Spot → Piece → List Piece → List Piece → Option Meaning
found_at spot piece rest all =
    if may_define spot piece rest all then short_function (function_in (definition_in rest)) else None

abbrev pub call_mark : Option Arguments → Mark
call_mark None = marks.Kept
call_mark (Some list) = marks.Changed rules.Use list.size

-- a call of one of these macros
abbrev pub use_mark : List Meaning → Spot → Piece → List Piece → Mark
use_mark names spot piece rest =
    if is_expanded spot.context.line && is_known piece.text names
    then call_mark (list_of (in_sight spot.context.line rest))
    else marks.Kept

abbrev pub mark_by : Option Meaning → List Meaning → Spot → Piece → List Piece → Mark
mark_by None names spot piece rest = use_mark names spot piece rest
mark_by (Some found) names spot piece rest = marks.Changed rules.Macro (line_size 0 rest)

-- a piece, which the rule of an earlier one takes if so many are still taken
abbrev pub mark_here : List Meaning → Spot → Piece → List Piece → List Piece → Mark
mark_here names spot piece rest all =
    if spot.taken == 0 then mark_by (found_at spot piece rest all) names spot piece rest else marks.Taken

abbrev pub names_by : Option Meaning → List Meaning → List Meaning
names_by None names = names
names_by (Some found) names = names ++ (found ∷ [])

-- the macros that are known behind a piece
abbrev pub names_here : List Meaning → Spot → Piece → List Piece → List Piece → List Meaning
names_here names spot piece rest all =
    if spot.taken == 0 then names_by (found_at spot piece rest all) names else names

-- the place behind a piece with this mark
abbrev pub spot_behind : Spot → Mark → Piece → List Piece → Spot
spot_behind spot mark piece rest = record {
  context = context_behind spot.context (class_of piece);
  taken = taken_after spot.taken mark;
  defined = if defines spot.context piece rest then deeper spot.defined else spot.defined;
  is_sure = spot.is_sure;
}

abbrev pub first_spot : List Piece → Spot
first_spot all = record { context = at_first; taken = 0; defined = 0; is_sure = not (has_condition at_first all) }

-- the marks of the pieces that follow, which stand in a source
abbrev pub marks_from : List Piece → List Meaning → Spot → List Piece → List Mark
marks_from all names spot [] = []
marks_from all names spot (piece ∷ rest) =
    mark_here names spot piece rest all
    ∷ marks_from all (names_here names spot piece rest all)
    (spot_behind spot (mark_here names spot piece rest all) piece rest) rest

-- the macros that are known behind the pieces that follow
abbrev pub names_from : List Piece → List Meaning → Spot → List Piece → List Meaning
names_from all names spot [] = names
names_from all names spot (piece ∷ rest) =
    names_from all (names_here names spot piece rest all)
    (spot_behind spot (mark_here names spot piece rest all) piece rest) rest

-- the marks of the pieces of a source: where macros with parameters are defined, and where they are called
abbrev pub call_marks : List Piece → List Mark
call_marks all = marks_from all [] (first_spot all) all

-- the macros with parameters of a source whose calls are written out
abbrev pub functions_of : List Piece → List Meaning
functions_of all = names_from all [] (first_spot all) all
