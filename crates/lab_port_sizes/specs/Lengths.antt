-- The lengths of arrays in their declarations.
use Rattle.std.specs.Prelude.{ℕ, Bool, true, false, ◌==◌, ◌||◌, ◌&&◌, not, if◌then◌else◌, codes, List, [], ◌∷◌}
use Rattle.std.specs.Str.{bytes_eq}
use Rattle.lab_port_tokens.specs.declared.piece.Piece.{Piece}
use Rattle.lab_port_words.specs.declared.class.Class.{Class}
use Rattle.lab_port_words.specs.declared.class.Class.TheVariants as classes
use Rattle.lab_port_words.specs.Tables.{class_of}
use Rattle.lab_port_context.specs.declared.context.Context.{Context}
use Rattle.lab_port_context.specs.Contexts.{context_behind, at_first, deeper, is_code}
use Rattle.lab_port_context.specs.Ahead.{nth_text, is_close, is_comma, is_star}
use Rattle.lab_port_sizes.specs.Shapes.{is_nth}

abbrev pub is_of_type : Class → Bool
is_of_type (classes.Type word) = true
is_of_type (classes.Storage word) = true
is_of_type _ = false

-- `))`, with which an attribute ends, stands before
abbrev pub is_behind_attribute : Context → Bool
is_behind_attribute context = is_close context.last && is_close context.before

-- something may be declared here: behind a word of a type, an attribute, a star, or a comma outside of parentheses
abbrev pub may_declare : Context → Bool
may_declare context =
    (is_of_type context.last || is_behind_attribute context)
    || (is_star context.last || (is_comma context.last && context.parens == 0))

-- an array with a length of one token, outside of parentheses
abbrev pub is_array : Context → List Piece → Bool
is_array context rest =
    (context.parens == 0 && is_nth 0 (codes "[") rest)
    && (is_nth 2 (codes "]") rest && not (is_nth 3 (codes "[") rest))

-- the name may be declared here
abbrev pub is_place : List ℕ → Context → Piece → Bool
is_place name context piece = (is_code context.line && bytes_eq piece.text name) && may_declare context

-- how many places may declare the name, besides so many
abbrev pub places_from : List ℕ → ℕ → Context → List Piece → ℕ
places_from name count context [] = count
places_from name count context (piece ∷ rest) =
    places_from name (if is_place name context piece then deeper count else count)
    (context_behind context (class_of piece)) rest

abbrev pub places_in : List ℕ → List Piece → ℕ
places_in name all = places_from name 0 at_first all

-- the length of the array that is declared at the first such place; nothing where it is no array of a length of one token
abbrev pub length_from : List ℕ → Context → List Piece → List ℕ
length_from name context [] = []
length_from name context (piece ∷ rest) =
    if is_place name context piece then (if is_array context rest then nth_text 1 rest else [])
    else length_from name (context_behind context (class_of piece)) rest

abbrev pub length_in : List ℕ → List Piece → List ℕ
length_in name all = length_from name at_first all

-- the length of the array of this name, which is declared once; nothing where that is not known
abbrev pub length_of : List ℕ → List Piece → List ℕ
length_of name all = if places_in name all == 1 then length_in name all else []
