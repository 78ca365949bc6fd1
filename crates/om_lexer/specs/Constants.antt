-- Integer constants (C17 6.4.4.1), without suffixes.
use Rattle.std.specs.Prelude.{◌≡◌, ℕ, ◌+◌, ◌*◌, ◌<◌, List, length, drop, fold, codes, nat_eq, if◌then◌else◌, All}
use Rattle.std.specs.List.{starts_with}
use Rattle.std.specs.Char.{digit_value}
use Rattle.om_lexer.specs.declared.fault.FaultCode.{FaultCode}
use Rattle.om_lexer.specs.declared.fault.FaultCode.TheVariants as codes

-- a constant that begins with `0x` is hexadecimal, any other that begins with `0` octal, the rest are decimal; `0X`
-- is left out
unfoldable pub base_of : List ℕ → ℕ
base_of text = if starts_with nat_eq text (codes "0x") then 16 else (if starts_with nat_eq text (codes "0") then 8
    else 10)

-- the digits of a constant: all of it but the prefix `0x`
unfoldable pub digits_of : List ℕ → List ℕ
digits_of text = if starts_with nat_eq text (codes "0x") then drop 2 text else text

-- all bytes are digits of this base
abbrev pub AreDigits : ℕ → List ℕ → Type 0
AreDigits base digits = All (λ digit. digit_value digit < base) digits

-- the number that digits stand for, the first of them the highest
abbrev pub value_in : ℕ → List ℕ → ℕ
value_in base digits = fold (λ value digit. value * base + digit_value digit) 0 digits

-- the text is a constant of this value, however large
pub record IsConstant (text : List ℕ) (value : ℕ) : Type 0 where
  pub has_digits : 0 < length (digits_of text)
  pub digits : AreDigits (base_of text) (digits_of text)
  pub value_is : value ≡ value_in (base_of text) (digits_of text)

-- the text is no constant, or one above 2147483647
abbrev pub IsWrongConstant : List ℕ → FaultCode → Type 0
IsWrongConstant text codes.BadToken = (value : ℕ) → IsConstant text value → ⊥
IsWrongConstant text codes.ConstantTooLarge = (value : ℕ) × IsConstant text value × (2147483647 < value)
IsWrongConstant text _ = ⊥
