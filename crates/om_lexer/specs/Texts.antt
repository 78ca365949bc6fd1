-- Text literals (C17 6.4.5), with the escapes \n, \t, \\ and \".
use Rattle.std.specs.Prelude.{◌≡◌, ℕ, ◌+◌, ◌<◌, ◌⊎◌, ◌==◌, List, [], ◌∷◌, Option, None, Some, length, slice_index}
use Rattle.std.specs.Prelude.{if◌then◌else◌}

-- an ASCII character that stands for itself: no quote, backslash or line feed
abbrev pub IsPlain : ℕ → Type 0
IsPlain b = (b < 128) × (b ≡ 34 → ⊥) × (b ≡ 92 → ⊥) × (b ≡ 10 → ⊥)

-- the character that a letter behind a backslash stands for
unfoldable pub escaped : ℕ → Option ℕ
escaped letter = if letter == 110 then Some 10 else (if letter == 116 then Some 9 else
    (if letter == 92 then Some 92 else (if letter == 34 then Some 34 else None)))

-- what stands from one byte up to another is this character of a text
abbrev pub IsCharacter : List ℕ → ℕ → ℕ → ℕ → Type 0
IsCharacter source from character to =
    ((from < length source) × (slice_index source from ≡ character) × IsPlain character × (to ≡ from + 1))
    ⊎ ((slice_index source from ≡ 92) × (escaped (slice_index source (from + 1)) ≡ Some character) × (to ≡ from + 2))

-- no character of a text begins there
abbrev pub HasNoCharacter : List ℕ → ℕ → Type 0
HasNoCharacter source from = (character to : ℕ) → IsCharacter source from character to → ⊥

-- from there up to a quote, and over it, stand these characters
abbrev pub Characters : List ℕ → ℕ → List ℕ → ℕ → Type 0
Characters source from [] to = (slice_index source from ≡ 34) × (to ≡ from + 1)
Characters source from (character ∷ rest) to = (next : ℕ) × IsCharacter source from character next
    × Characters source next rest to

-- a text literal of these characters
abbrev pub IsText : List ℕ → ℕ → List ℕ → ℕ → Type 0
IsText source from characters to = (slice_index source from ≡ 34) × Characters source (from + 1) characters to
