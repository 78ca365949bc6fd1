-- Classes of bytes.
use Rattle.std.specs.Prelude.{ℕ, Bool, ◌==◌, ◌||◌}
use Rattle.std.specs.Char.{is_ascii_alphanumeric}

-- a letter, a digit or `_`: what names, keywords and constants are made of (C17 6.4.2.1)
unfoldable pub is_word_byte : ℕ → Bool
is_word_byte b = is_ascii_alphanumeric b || b == 95

-- a space, a tab or a carriage return
unfoldable pub is_blank : ℕ → Bool
is_blank b = (b == 32 || b == 9) || b == 13
