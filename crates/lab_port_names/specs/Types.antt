-- The name that a `typedef` gives to a type of whole numbers (C17 6.7.8).
use Rattle.std.specs.Prelude.{ℕ, Bool, true, false, List, [], ◌∷◌, ◌++◌, ◌+◌, ◌||◌, ◌&&◌, not, if◌then◌else◌, flat_map, Option, None, Some}
use Rattle.lab_port_tokens.specs.declared.piece.Piece.{Piece}
use Rattle.lab_port_words.specs.declared.class.Class.{Class}
use Rattle.lab_port_words.specs.declared.class.Class.TheVariants as classes
use Rattle.lab_port_words.specs.declared.class.Storage.TheVariants as storages
use Rattle.lab_port_words.specs.Classes.{is_gap, is_word}
use Rattle.lab_port_words.specs.Tables.{class_of}
use Rattle.lab_port_context.specs.Contexts.{is_whole_type}
use Rattle.lab_port_context.specs.Ahead.{is_semicolon}
use Rattle.lab_port_names.specs.declared.type_name.TypePart.{TypePart}
use Rattle.lab_port_names.specs.declared.type_name.TypePart.TheVariants as parts
use Rattle.lab_port_names.specs.declared.type_name.TypeNext.{TypeNext}
use Rattle.lab_port_names.specs.declared.type_name.TypeNext.TheVariants.{Fails, Ends, Goes}

-- `const` and its like
abbrev pub is_plain : Class → Bool
is_plain (classes.Storage storages.Plain) = true
is_plain _ = false

abbrev pub is_of_type : Class → Bool
is_of_type class = is_whole_type class || is_plain class

abbrev pub goes_if : Bool → TypePart → TypeNext
goes_if goes part = if goes then Goes part else Fails

abbrev pub behind_type : Class → TypeNext
behind_type class = if is_of_type class then Goes parts.Type else goes_if (is_word class) parts.Name

-- what a token is behind these
abbrev pub type_next_by : TypePart → Class → TypeNext
type_next_by parts.Typedef class = goes_if (is_of_type class) parts.Type
type_next_by parts.Alias class = goes_if (is_word class) parts.Type
type_next_by parts.Type class = behind_type class
type_next_by parts.Name class = if is_semicolon class then Ends else Fails

abbrev pub type_next : TypePart → Class → TypeNext
type_next part class = if is_gap class then Goes part else type_next_by part class

-- how many pieces there are up to the `;` of such a definition and with it, besides these
abbrev pub type_end : ℕ → TypePart → List Piece → Option ℕ
type_end passed part [] = None
type_end passed part (piece ∷ rest) = elim (type_next part (class_of piece)) [
  | Fails ↦ None
  | Ends ↦ Some (passed + 1)
  | Goes next ↦ type_end (passed + 1) next rest
]

abbrev pub type_part : Piece → List ℕ
type_part piece = if is_of_type (class_of piece) then 32 ∷ piece.text else []

-- the words of the type, each behind a space
abbrev pub type_text : List Piece → List ℕ
type_text pieces = flat_map type_part pieces

abbrev pub is_type_name : Class → Bool
is_type_name class = is_word class && not (is_of_type class)

-- the last word that is none of a type, behind this one
abbrev pub last_name : List ℕ → List Piece → List ℕ
last_name name [] = name
last_name name (piece ∷ rest) = last_name (if is_type_name (class_of piece) then piece.text else name) rest
