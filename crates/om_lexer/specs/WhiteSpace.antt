-- White space and comments, each from one byte of a source up to another.
use Rattle.std.specs.Prelude.{◌≡◌, ℕ, ◌+◌, ◌<◌, ◌≤◌, ◌⊎◌, true, List, [], ◌∷◌, length, slice_index}
use Rattle.om_lexer.specs.Characters.{is_blank}

-- a line feed, or a carriage return and a line feed
abbrev pub IsLineEnd : List ℕ → ℕ → ℕ → Type 0
IsLineEnd source from to =
    ((slice_index source from ≡ 10) × (to ≡ from + 1))
    ⊎ ((slice_index source from ≡ 13) × (slice_index source (from + 1) ≡ 10) × (to ≡ from + 2))

-- a space, a tab, a carriage return, or a backslash directly before a line end; the last is an own choice, since
-- C17 5.1.1.2, phase 2 deletes the two, and so joins what stands round them
abbrev pub IsSpace : List ℕ → ℕ → ℕ → Type 0
IsSpace source from to =
    ((is_blank (slice_index source from) ≡ true) × (to ≡ from + 1))
    ⊎ ((slice_index source from ≡ 92) × IsLineEnd source (from + 1) to)

-- C17 6.4.9: `/*` up to the first `*/` behind it
pub record IsBlockComment (source : List ℕ) (from to : ℕ) : Type 0 where
  pub slash : slice_index source from ≡ 47
  pub star : slice_index source (from + 1) ≡ 42
  pub last : ℕ
  pub behind : from + 2 ≤ last
  pub last_star : slice_index source last ≡ 42
  pub last_slash : slice_index source (last + 1) ≡ 47
  pub first : (k : ℕ) → from + 2 ≤ k → k < last → slice_index source k ≡ 42 → slice_index source (k + 1) ≡ 47 → ⊥
  pub end : to ≡ last + 2

-- C17 6.4.9: `//` up to a line feed, which is no part of it, or to the end of the source; an own choice is that a
-- backslash before the line feed does not continue it
pub record IsLineComment (source : List ℕ) (from to : ℕ) : Type 0 where
  pub slashes : (slice_index source from ≡ 47) × (slice_index source (from + 1) ≡ 47)
  pub behind : from + 2 ≤ to
  pub inside : to ≤ length source
  pub one_line : (k : ℕ) → from ≤ k → k < to → slice_index source k ≡ 10 → ⊥
  pub ends : to < length source → slice_index source to ≡ 10

abbrev pub IsComment : List ℕ → ℕ → ℕ → Type 0
IsComment source from to = IsBlockComment source from to ⊎ IsLineComment source from to

-- the two bytes with which comments begin
abbrev pub BeginsComment : List ℕ → ℕ → Type 0
BeginsComment source from =
    (slice_index source from ≡ 47) × ((slice_index source (from + 1) ≡ 42) ⊎ (slice_index source (from + 1) ≡ 47))

-- white space in a line; a comment is white space (C17 5.1.1.2, phase 3)
abbrev pub IsWhiteSpace : List ℕ → ℕ → ℕ → Type 0
IsWhiteSpace source from to = IsSpace source from to ⊎ IsComment source from to

-- from one byte up to another stands white space in a line, which ends at these bytes in turn
abbrev pub Spaces : List ℕ → ℕ → List ℕ → ℕ → Type 0
Spaces source from [] to = from ≡ to
Spaces source from (end ∷ ends) to = IsWhiteSpace source from end × Spaces source end ends to

-- the white space from there on, none or some, up to where no more stands
pub record IsGap (source : List ℕ) (from to : ℕ) : Type 0 where
  pub ends : List ℕ
  pub spaces : Spaces source from ends to
  pub no_more : (more : ℕ) → IsWhiteSpace source to more → ⊥
