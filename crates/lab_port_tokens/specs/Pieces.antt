-- The pieces of a source, each with its bytes.
use Rattle.std.specs.Prelude.{ℕ, zero, suc, List, [], ◌∷◌, ◌==◌, ◌||◌, ◌&&◌, if◌then◌else◌, ◌+◌, take, drop, slice_index, flat_map}
use Rattle.lab_port_tokens.specs.declared.piece.Piece.{Piece}
use Rattle.lab_port_tokens.specs.declared.piece.PieceKind.{PieceKind}
use Rattle.lab_port_tokens.specs.declared.piece.PieceKind.TheVariants as kinds
use Rattle.lab_port_tokens.specs.Characters.{is_blank, is_digit, is_word_byte}
use Rattle.lab_port_tokens.specs.Scans.{scan_after, size_from}

-- what a piece is, by its first two bytes; the second is 0 where there is none
abbrev pub kind_of : ℕ → ℕ → PieceKind
kind_of first second =
    if first == 10 then kinds.LineEnd
    else if is_blank first || first == 92 then kinds.Space
    else if is_digit first || (first == 46 && is_digit second) then kinds.Number
    else if is_word_byte first then kinds.Word
    else if first == 34 then kinds.Text
    else if first == 39 then kinds.Character
    else if first == 47 && (second == 42 || second == 47) then kinds.Comment
    else kinds.Mark

-- how many bytes the piece has that begins with this byte, before these
abbrev pub size_of : ℕ → List ℕ → ℕ
size_of first rest = suc (size_from (scan_after first) rest)

-- the piece that begins with this byte of a source, at this place in it, before these bytes
abbrev pub piece_of : ℕ → ℕ → List ℕ → Piece
piece_of at first rest = record {
  kind = kind_of first (slice_index rest 0);
  at = at;
  text = take (size_of first rest) (first ∷ rest);
}

-- the piece at a place of a source
abbrev pub piece_at : List ℕ → ℕ → Piece
piece_at source at = piece_of at (slice_index source at) (drop (at + 1) source)

-- the pieces of the bytes from this place on, without the first ones, which belong to a piece before them
abbrev pub pieces_behind : ℕ → ℕ → List ℕ → List Piece
pieces_behind at passed [] = []
pieces_behind at zero (b ∷ rest) =
    piece_of at b rest ∷ pieces_behind (at + 1) (size_from (scan_after b) rest) rest
pieces_behind at (suc passed) (b ∷ rest) = pieces_behind (at + 1) passed rest

-- the pieces of a source
abbrev pub pieces_of : List ℕ → List Piece
pieces_of source = pieces_behind 0 0 source

-- the bytes of some pieces, in order
abbrev pub bytes_of : List Piece → List ℕ
bytes_of = flat_map (λ piece. piece.text)
