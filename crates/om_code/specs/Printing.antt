-- What PRINT writes.
use Rattle.std.specs.Prelude.{ℕ, ℤ, List, [], ◌∷◌, ◌++◌, Option, Some, None, option_map, length, take, reverse, nat_le}
use Rattle.std.specs.Prelude.{if◌then◌else◌}
use Rattle.std.specs.Fmt.{signed_decimal}
use Rattle.om_code.specs.declared.raw.Piece.{Piece}
use Rattle.om_code.specs.declared.raw.Piece.TheVariants.{Bytes, Value}
use Rattle.om_code.specs.declared.frame.Operand.{Operand}
use Rattle.om_code.specs.declared.frame.Operand.TheVariants as operand

-- C17 7.21.6.1: the bytes of a text as they stand, and each value in decimal
abbrev pub printed : List Piece → List ℤ → List ℕ
printed [] values = []
printed (Bytes bytes ∷ rest) values = bytes ++ printed rest values
printed (Value ∷ rest) [] = printed rest []
printed (Value ∷ rest) (value ∷ values) = signed_decimal value ++ printed rest values

-- the ints of operands, if all are ints
abbrev pub ints : List Operand → Option (List ℤ)
ints [] = Some []
ints (operand.NoValue ∷ rest) = None
ints (operand.Int value ∷ rest) = option_map (λ values. value ∷ values) (ints rest)

-- the ints of so many operands from the top, in the order in which they were pushed; none where there are fewer
abbrev pub ints_on : ℕ → List Operand → Option (List ℤ)
ints_on count operands = if nat_le count (length operands) then ints (reverse (take count operands)) else None
