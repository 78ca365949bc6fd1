-- The arrays of two dimensions of a source, each of which is declared with one length of its rows, and named with two indices
-- wherever it is named in code.
use Rattle.std.specs.Prelude.{ℕ, Bool, true, false, ◌==◌, ◌||◌, ◌&&◌, not, if◌then◌else◌, is_some, codes, drop, Option, None, Some, List, [], ◌∷◌}
use Rattle.std.specs.Str.{bytes_eq}
use Rattle.lab_port_tokens.specs.declared.piece.Piece.{Piece}
use Rattle.lab_port_words.specs.Tables.{class_of}
use Rattle.lab_port_context.specs.declared.context.Context.{Context}
use Rattle.lab_port_context.specs.Contexts.{context_behind, at_first, is_code}
use Rattle.lab_port_arrays.specs.declared.constant.Constant.{Constant}
use Rattle.lab_port_arrays.specs.declared.declared.Declared.{Declared}
use Rattle.lab_port_arrays.specs.declared.shape.Shape.{Shape}
use Rattle.lab_port_arrays.specs.declared.shape.Lengths.{Lengths}
use Rattle.lab_port_arrays.specs.Numbers.{combined}
use Rattle.lab_port_arrays.specs.Constants.{constant_at, is_nth}
use Rattle.lab_port_arrays.specs.Brackets.{bracket_size, pair_size}
use Rattle.lab_port_arrays.specs.Declarations.{outside, declared_behind, is_declarator}

-- brackets begin directly behind so many pieces
abbrev pub opens_behind : ℕ → List Piece → Bool
opens_behind size rest = is_nth 0 (codes "[") (drop size rest)

abbrev pub has_pair_of : Option ℕ → List Piece → Bool
has_pair_of None rest = false
has_pair_of (Some size) rest = not (opens_behind size rest)

-- two indices stand directly here, and no third one
abbrev pub has_pair : List Piece → Bool
has_pair rest = has_pair_of (pair_size rest) rest

abbrev pub lengths_by : Option ℕ → ℕ → Option Lengths
lengths_by None columns = None
lengths_by (Some total) columns = Some (record { total = total; columns = columns })

abbrev pub lengths_of : Option Constant → Option Constant → Option Lengths
lengths_of None columns = None
lengths_of (Some rows) None = None
lengths_of (Some rows) (Some columns) = lengths_by (combined (codes "*") rows.number columns.number) columns.number

abbrev pub columns_at : Option ℕ → List Piece → List Piece → Option Constant
columns_at None rest all = None
columns_at (Some size) rest all = constant_at (drop size rest) all

-- the lengths in the two brackets that begin directly here
abbrev pub lengths_at : List Piece → List Piece → Option Lengths
lengths_at rest all =
    if has_pair rest then lengths_of (constant_at rest all) (columns_at (bracket_size rest) rest all) else None

-- named otherwise
abbrev pub mixed : Shape
mixed = record { is_known = true; is_mixed = true; columns = 0 }

abbrev pub shape_by : Option Lengths → Shape → Shape
shape_by None shape = mixed
shape_by (Some lengths) shape =
    if shape.is_mixed || (shape.is_known && not (shape.columns == lengths.columns)) then mixed
    else record { is_known = true; is_mixed = false; columns = lengths.columns }

-- with a place more at which the name stands
abbrev pub shape_with : Bool → Shape → List Piece → List Piece → Shape
shape_with declares shape rest all =
    if declares then shape_by (lengths_at rest all) shape else if has_pair rest then shape else mixed

-- the name stands here in code
abbrev pub is_named_here : List ℕ → Context → Piece → Bool
is_named_here name context piece = is_code context.line && bytes_eq piece.text name

abbrev pub shape_at : List ℕ → Shape → Declared → Context → Piece → List Piece → List Piece → Shape
shape_at name shape declared context piece rest all =
    if is_named_here name context piece
    then shape_with (is_declarator declared context (class_of piece)) shape rest all
    else shape

-- what the pieces that follow, which stand in a source, say of a name
abbrev pub shape_from : List ℕ → Shape → Declared → Context → List Piece → List Piece → Shape
shape_from name shape declared context all [] = shape
shape_from name shape declared context all (piece ∷ rest) =
    shape_from name (shape_at name shape declared context piece rest all)
    (declared_behind declared context (class_of piece)) (context_behind context (class_of piece)) all rest

abbrev pub no_shape : Shape
no_shape = record { is_known = false; is_mixed = false; columns = 0 }

abbrev pub shape_of : List ℕ → List Piece → Shape
shape_of name all = shape_from name no_shape outside at_first all all

-- a name whose arrays become ones of one dimension
abbrev pub is_flat : Shape → Bool
is_flat shape = shape.is_known && not shape.is_mixed

abbrev pub total_of : Option Lengths → Option ℕ
total_of None = None
total_of (Some lengths) = Some lengths.total
