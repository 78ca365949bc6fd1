-- The formats of `printf` (C17 7.21.6.1): `%d` writes a value, `%%` a percent sign, and there is no other conversion.
use Rattle.std.specs.Prelude.{ℕ, ◌+◌, ◌==◌, ◌≡◌, IsSomeAnd, List, [], ◌∷◌, Option, None, Some, option_map}
use Rattle.std.specs.Prelude.{if◌then◌else◌}

-- a piece of a format: these bytes are written, at least one of them, or a value in decimal digits
pub data Piece : Type 0 where
  Bytes : List ℕ → Piece
  Value : Piece

-- a byte that is written before pieces
abbrev pub with_byte : ℕ → List Piece → List Piece
with_byte byte [] = Bytes (byte ∷ []) ∷ []
with_byte byte (Bytes bytes ∷ pieces) = Bytes (byte ∷ bytes) ∷ pieces
with_byte byte (Value ∷ pieces) = Bytes (byte ∷ []) ∷ Value ∷ pieces

unfoldable mutual
  -- a format in its pieces, if it is one
  pub pieces_of : List ℕ → Option (List Piece)
  pieces_of [] = Some []
  pieces_of (byte ∷ format) = if byte == 37 then converted format else option_map (with_byte byte) (pieces_of format)

  -- what begins behind a `%`
  pub converted : List ℕ → Option (List Piece)
  converted [] = None
  converted (byte ∷ format) =
      if byte == 100 then option_map (λ pieces. Value ∷ pieces) (pieces_of format)
      else if byte == 37 then option_map (with_byte byte) (pieces_of format)
      else None

-- how many values are written
abbrev pub value_count : List Piece → ℕ
value_count [] = 0
value_count (Bytes bytes ∷ pieces) = value_count pieces
value_count (Value ∷ pieces) = value_count pieces + 1

-- a format that writes so many values
abbrev pub IsFormat : List ℕ → ℕ → Type 0
IsFormat format count = IsSomeAnd (pieces_of format) (λ pieces. value_count pieces ≡ count)
