-- Classes of bytes (C17 6.4).
use Rattle.std.specs.Prelude.{ℕ, Bool, ◌==◌, ◌||◌, codes, List, ◌∷◌, []}
use Rattle.std.specs.Char.{is_ascii_alphanumeric, is_ascii_digit}
use Rattle.std.specs.List.{list_any}

abbrev pub is_digit : ℕ → Bool
is_digit b = is_ascii_digit b

-- a letter, a digit or `_`: what names and keywords are made of (C17 6.4.2.1)
abbrev pub is_word_byte : ℕ → Bool
is_word_byte b = is_ascii_alphanumeric b || b == 95

-- a space, a tab, a carriage return, a vertical tab or a form feed
abbrev pub is_blank : ℕ → Bool
is_blank b = list_any (λ y. y == b) (32 ∷ 9 ∷ 13 ∷ 11 ∷ 12 ∷ [])

-- this byte, twice, is a punctuator
abbrev pub is_doubled : ℕ → Bool
is_doubled b = list_any (λ y. y == b) (codes "+-<>&|#")

-- this byte and a `=` are a punctuator
abbrev pub takes_equal : ℕ → Bool
takes_equal b = list_any (λ y. y == b) (codes "+-*/%<>=!&|^")
