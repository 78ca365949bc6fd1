-- What is written for what comes: each line with words behind it, and the bytes of `output` as they are.
use Rattle.std.specs.Prelude.{◌≡◌, ℕ, ◌+◌, List, [], ◌∷◌, ◌++◌, Option, None, Some, codes, length, if◌then◌else◌, ◌&&◌}
use Rattle.std.specs.Str.{bytes_eq}
use Rattle.om_shell_commands.specs.Arguments.{number_of}
use Rattle.om_shell_commands.specs.Words.{words_of}
use Rattle.om_shell.specs.Lines.{HasNoLineEnd}
use Rattle.lab_text.specs.Tails.{IsTail}

abbrev pub or_none : Option ℕ → ℕ
or_none None = 0
or_none (Some n) = n

-- the K of the words `output K bytes`, else 0
abbrev pub announced : List (List ℕ) → ℕ
announced (first ∷ (second ∷ (third ∷ []))) =
    if bytes_eq first (codes "output") && bytes_eq third (codes "bytes") then or_none (number_of second) else 0
announced words = 0

-- How many bytes are due as they are, what comes then, what is written for it, and how many bytes are due as they are
-- behind it.
pub data IsPart : ℕ → List ℕ → List ℕ → ℕ → Type 0 where
  as_they_are : (before after : ℕ) (bytes : List ℕ) → before ≡ length bytes + after → IsPart before bytes bytes after
  a_line : (line tail : List ℕ) → HasNoLineEnd line → IsTail tail
      → IsPart 0 (line ++ 10 ∷ []) (line ++ tail ++ 10 ∷ []) (announced (words_of line))

-- parts from the first byte on, what is written for them, and how many bytes are due as they are behind them
pub data AreParts : List ℕ → List ℕ → ℕ → Type 0 where
  no_part : AreParts [] [] 0
  one_more : (came written part text : List ℕ) (before after : ℕ) → AreParts came written before
      → IsPart before part text after → AreParts (came ++ part) (written ++ text) after

-- all that came, and what is written for it: parts, and as it is a last line that nothing ends
pub record IsAnnotated (came written : List ℕ) : Type 0 where
  pub front : List ℕ
  pub text : List ℕ
  pub last : List ℕ
  pub due : ℕ
  pub parts : AreParts front text due
  pub unended : HasNoLineEnd last
  pub came_is : came ≡ front ++ last
  pub written_is : written ≡ text ++ last
