-- Where an array has a list, and where those at file scope get their values.
use Rattle.std.specs.Prelude.{ℕ, Bool, true, false, ◌==◌, ◌||◌, ◌&&◌, not, if◌then◌else◌, nat_lt, List, [], ◌∷◌, ◌++◌, Option, None, Some, codes, take, count_by, length}
use Rattle.std.specs.Str.{bytes_eq}
use Rattle.std.specs.List.{list_any}
use Rattle.lab_port_tokens.specs.declared.piece.Piece.{Piece}
use Rattle.lab_port_words.specs.declared.class.Class.{Class}
use Rattle.lab_port_words.specs.declared.class.Class.TheVariants as classes
use Rattle.lab_port_words.specs.declared.class.Sign.TheVariants as signs
use Rattle.lab_port_words.specs.declared.class.Storage.TheVariants as storages
use Rattle.lab_port_words.specs.declared.class.Word.TheVariants as words
use Rattle.lab_port_words.specs.Tables.{class_of}
use Rattle.lab_port_context.specs.declared.context.Context.{Context}
use Rattle.lab_port_context.specs.Contexts.{context_behind, at_first, is_code, is_main}
use Rattle.lab_port_rules.specs.declared.rule.Meaning.{Meaning}
use Rattle.lab_port_rules.specs.declared.rule.Rule.TheVariants as rules
use Rattle.lab_port_rules.specs.declared.mark.Mark.{Mark}
use Rattle.lab_port_rules.specs.declared.mark.Mark.TheVariants as marks
use Rattle.lab_port_rules.specs.Marks.{taken_after}
use Rattle.lab_port_lists.specs.declared.place.Spot.{Spot}
use Rattle.lab_port_lists.specs.Shapes.{list_size}
use Rattle.lab_port_lists.specs.Values.{is_open_brace}
use Rattle.lab_port_lists.specs.Arrays.{stores_text}

abbrev pub is_name : Class → Bool
is_name (classes.Word words.Other) = true
is_name _ = false

-- a name is declared here directly behind its type, in no parameter and no `for`
abbrev pub is_declared : Context → Class → Bool
is_declared context class = (is_code context.line && is_name class) && (context.typed && context.parens == 0)

-- an array in a block that has its values from the beginning (C17 6.2.4p3, 6.7.9p4), not at each time that its
-- declaration is reached
abbrev pub is_lasting : Spot → Bool
is_lasting spot = spot.is_static && nat_lt 0 spot.context.braces

abbrev pub gets_stores : Spot → Bool
gets_stores spot = spot.is_free && not (is_lasting spot)

-- how many pieces the list has that is given to the name here
abbrev pub given_size : Spot → Piece → List Piece → Option ℕ
given_size spot piece rest =
    if gets_stores spot && is_declared spot.context (class_of piece) then list_size rest else None

-- the `{` of `main`
abbrev pub begins_main : Context → Class → Bool
begins_main context class = (context.in_main && context.braces == 0) && is_open_brace class

abbrev pub is_empty : List Meaning → Bool
is_empty names = length names == 0

-- where some array at file scope has a list, `main` begins with its stores
abbrev pub fill_mark : List Meaning → Spot → Class → Mark
fill_mark names spot class =
    if (begins_main spot.context class && not spot.filled) && not (is_empty names)
    then marks.Changed rules.Fill 0
    else marks.Kept

-- in a block the stores stand behind the declaration, at file scope at the beginning of a `main` that follows
abbrev pub list_mark : Spot → ℕ → Mark
list_mark spot size =
    if nat_lt 0 spot.context.braces then marks.Changed rules.List size
    else if spot.filled then marks.Kept
    else marks.Changed rules.FileList size

abbrev pub mark_by : Option ℕ → List Meaning → Spot → Piece → Mark
mark_by None names spot piece = fill_mark names spot (class_of piece)
mark_by (Some size) names spot piece = list_mark spot size

-- a piece, which the rule of an earlier one takes if so many are still taken
abbrev pub mark_here : List Meaning → Spot → Piece → List Piece → Mark
mark_here names spot piece rest =
    if spot.taken == 0 then mark_by (given_size spot piece rest) names spot piece else marks.Taken

abbrev pub stores_here : List ℕ → List Piece → Meaning
stores_here name list = record { name = name; text = stores_text name list }

-- the arrays that get their values in `main`, behind a piece with this mark
abbrev pub names_with : List Meaning → Mark → Piece → List Piece → List Meaning
names_with names (marks.Changed rules.FileList size) piece rest =
    names ++ (stores_here piece.text (take size rest) ∷ [])
names_with names _ piece rest = names

abbrev pub is_static : Class → Bool
is_static (classes.Storage storages.Static) = true
is_static _ = false

-- a declaration ends, or a block begins or ends
abbrev pub is_end : Class → Bool
is_end (classes.Sign signs.Semicolon) = true
is_end (classes.Sign signs.OpenBrace) = true
is_end (classes.Sign signs.CloseBrace) = true
is_end _ = false

-- `static` stands in the declaration, behind a piece of this class
abbrev pub static_behind : Spot → Class → Bool
static_behind spot class =
    (is_code spot.context.line && is_static class) || (spot.is_static && not (is_end class))

-- the place behind a piece with this mark
abbrev pub spot_behind : Spot → Mark → Piece → Spot
spot_behind spot mark piece = record {
  context = context_behind spot.context (class_of piece);
  taken = taken_after spot.taken mark;
  filled = spot.filled || begins_main spot.context (class_of piece);
  is_static = static_behind spot (class_of piece);
  is_free = spot.is_free;
}

-- the marks of the pieces that follow
abbrev pub marks_from : List Meaning → Spot → List Piece → List Mark
marks_from names spot [] = []
marks_from names spot (piece ∷ rest) =
    mark_here names spot piece rest
    ∷ marks_from (names_with names (mark_here names spot piece rest) piece rest)
    (spot_behind spot (mark_here names spot piece rest) piece) rest

-- the arrays that get their values in `main`, behind the pieces that follow
abbrev pub names_from : List Meaning → Spot → List Piece → List Meaning
names_from names spot [] = names
names_from names spot (piece ∷ rest) =
    names_from (names_with names (mark_here names spot piece rest) piece rest)
    (spot_behind spot (mark_here names spot piece rest) piece) rest

-- the name that the rule brings in
abbrev pub is_counter : Piece → Bool
is_counter piece = bytes_eq piece.text (codes "list__i")

-- how often `main` is named
abbrev pub mains : List Piece → ℕ
mains pieces = count_by (λ piece. is_main (class_of piece)) pieces

-- a `main` that is called too begins more than once, so that nothing is stored there; and no list has stores where the
-- source has the name that they bring in
abbrev pub first_spot : List Piece → Spot
first_spot pieces = record {
  context = at_first;
  taken = 0;
  filled = nat_lt 1 (mains pieces);
  is_static = false;
  is_free = not (list_any is_counter pieces);
}

-- the marks of the pieces of a source: where arrays have lists, and where they get their values
abbrev pub list_marks : List Piece → List Mark
list_marks pieces = marks_from [] (first_spot pieces) pieces

-- the arrays of a source that get their values in `main`
abbrev pub lists_of : List Piece → List Meaning
lists_of pieces = names_from [] (first_spot pieces) pieces
