-- What stands behind a line.
use Rattle.std.specs.Prelude.{◌≡◌, ℕ, Bool, List, [], ◌∷◌, ◌++◌, ◌==◌, ◌&&◌, not, if◌then◌else◌, codes, is_none, length}
use Rattle.std.specs.List.{position}
use Rattle.om_shell.specs.Lines.{HasNoLineEnd}

-- whether words can stand behind a line: there are some, and none of their bytes would end it
abbrev pub fits_behind : List ℕ → Bool
fits_behind words = not (length words == 0) && is_none (position (λ byte. byte == 10) words)

-- what stands behind a line for these words: the mark and the words, or nothing
abbrev pub tail_of : List ℕ → List ℕ
tail_of words = if fits_behind words then codes " | " ++ words else []

-- what may stand behind a line: nothing, or the mark and words, which end no line
pub data IsTail : List ℕ → Type 0 where
  no_words : IsTail []
  with_words : (text : List ℕ) → HasNoLineEnd text → IsTail (codes " | " ++ text)

-- a line of these bytes as it is written
pub record IsNoted (line text : List ℕ) : Type 0 where
  pub tail : List ℕ
  pub is_tail : IsTail tail
  pub is : text ≡ line ++ tail ++ 10 ∷ []
