-- The class of a piece.
use Rattle.std.specs.Prelude.{ℕ, List, [], ◌∷◌, map, if◌then◌else◌}
use Rattle.std.specs.Str.{bytes_eq}
use Rattle.lab_port_tokens.specs.declared.piece.Piece.{Piece}
use Rattle.lab_port_tokens.specs.declared.piece.PieceKind.{PieceKind}
use Rattle.lab_port_tokens.specs.declared.piece.PieceKind.TheVariants as kinds
use Rattle.lab_port_words.specs.declared.class.Class.{Class}
use Rattle.lab_port_words.specs.declared.class.Class.TheVariants as classes
use Rattle.lab_port_words.specs.declared.class.Word.TheVariants as words
use Rattle.lab_port_words.specs.declared.class.Sign.TheVariants as signs
use Rattle.lab_port_words.specs.declared.table.TheConstants.{WORDS, SIGNS}
use Rattle.lab_port_words.specs.Texts.{form_of, format_of, character_number, has_one_of}

-- the class of the first row of this name, or else this one
abbrev pub class_in : List (List ℕ × Class) → Class → List ℕ → Class
class_in [] other name = other
class_in (row ∷ rows) other name = if bytes_eq row.0 name then row.1 else class_in rows other name

-- by the table WORDS
abbrev pub word_class : List ℕ → Class
word_class name = class_in (map (λ row. (row.0.now, row.1)) WORDS) (classes.Word words.Other) name

-- by the table SIGNS
abbrev pub sign_class : List ℕ → Class
sign_class name = class_in (map (λ row. (row.0.now, row.1)) SIGNS) (classes.Sign signs.Other) name

abbrev pub gap_class : List ℕ → Class
gap_class text = if has_one_of (10 ∷ []) text then classes.Join else classes.Gap

-- a text over several lines is kept as it is
abbrev pub text_class : List ℕ → Class
text_class text =
    if has_one_of (10 ∷ []) text then classes.Sign signs.Other else classes.Text (format_of text)

-- the class of a piece of this kind, with these bytes
abbrev pub class_by : PieceKind → List ℕ → Class
class_by kinds.LineEnd text = classes.LineEnd
class_by kinds.Space text = gap_class text
class_by kinds.Comment text = gap_class text
class_by kinds.Word text = word_class text
class_by kinds.Number text = classes.Number (form_of text)
class_by kinds.Text text = text_class text
class_by kinds.Character text = classes.Character (character_number text)
class_by kinds.Mark text = sign_class text

abbrev pub class_of : Piece → Class
class_of piece = class_by piece.kind piece.text

-- the classes of all pieces
abbrev pub classes_of : List Piece → List Class
classes_of pieces = map class_of pieces
