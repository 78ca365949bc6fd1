-- What stands among the pieces of a line.
use Rattle.std.specs.Prelude.{ℕ, Bool, true, false, List, [], ◌∷◌, ◌+◌, ◌&&◌, if◌then◌else◌, codes}
use Rattle.std.specs.Str.{bytes_eq}
use Rattle.lab_port_tokens.specs.declared.piece.Piece.{Piece}
use Rattle.lab_port_tokens.specs.declared.piece.PieceKind.{PieceKind}
use Rattle.lab_port_tokens.specs.declared.piece.PieceKind.TheVariants as kinds

-- white space or a comment
abbrev pub is_space : PieceKind → Bool
is_space kinds.Space = true
is_space kinds.Comment = true
is_space _ = false

abbrev pub is_line_end : PieceKind → Bool
is_line_end kinds.LineEnd = true
is_line_end _ = false

abbrev pub is_word : PieceKind → Bool
is_word kinds.Word = true
is_word _ = false

abbrev pub is_number : PieceKind → Bool
is_number kinds.Number = true
is_number _ = false

abbrev pub is_mark : PieceKind → Bool
is_mark kinds.Mark = true
is_mark _ = false

-- a punctuator with these bytes
abbrev pub is_sign : List ℕ → Piece → Bool
is_sign bytes piece = is_mark piece.kind && bytes_eq piece.text bytes

-- a word with these bytes
abbrev pub is_named : List ℕ → Piece → Bool
is_named bytes piece = is_word piece.kind && bytes_eq piece.text bytes

-- how many pieces stand before the end of the line, besides these
abbrev pub line_pieces : ℕ → List Piece → ℕ
line_pieces passed [] = passed
line_pieces passed (piece ∷ rest) = if is_line_end piece.kind then passed else line_pieces (passed + 1) rest

-- the pieces without the white space before them
abbrev pub behind_spaces : List Piece → List Piece
behind_spaces [] = []
behind_spaces (piece ∷ rest) = if is_space piece.kind then behind_spaces rest else piece ∷ rest
