-- Numbers with their sign (C17 6.6).
use Rattle.std.specs.Prelude.{ℤ, pos, ◌-ℤ◌, ℕ, Option, None, Some}
use Rattle.om_lexer.specs.declared.token.Span.{Span}
use Rattle.om_parser_tree.specs.declared.tree.SignedNumber.{SignedNumber}

abbrev pub with_sign : (minus : Option Span) → ℕ → ℤ
with_sign None value = pos value
with_sign (Some minus) value = pos 0 -ℤ pos value

-- what it stands for
abbrev pub signed_value : SignedNumber → ℤ
signed_value signed = with_sign signed.minus signed.number.value
