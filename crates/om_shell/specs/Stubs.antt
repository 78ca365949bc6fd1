-- A line of commands that is too long is kept in part.
use Rattle.std.specs.Prelude.{◌≡◌, ◌⊎◌, ◌<◌, ℕ, List, ◌++◌, length, Option}
use Rattle.om_shell_debugger.specs.declared.debugger.Debugger.{Debugger}
use Rattle.om_shell.specs.Lines.{HasNoLineEnd}
use Rattle.om_shell.specs.Progress.{Moment, moment_of}
use Rattle.om_shell.specs.Sessions.{AdvancesTo}

-- The beginning of a line that is too long, whatever follows: a line of more than 1,024 bytes is refused, and a
-- carriage return at its end does not count.
abbrev pub IsLong : List ℕ → Type 0
IsLong bytes = HasNoLineEnd bytes × (1025 < length bytes)

-- The kept bytes stand for the real ones: they are the same, but for a first line that is too long in both.
pub record StandsFor (real kept : List ℕ) : Type 0 where
  pub whole : List ℕ
  pub front : List ℕ
  pub more : List ℕ
  pub real_is : real ≡ whole ++ more
  pub kept_is : kept ≡ front ++ more
  pub same : (whole ≡ front) ⊎ (IsLong whole × IsLong front)

-- Calls were made since a moment, and what is kept stands for the bytes that are not answered yet.
pub record Conversed (before : Moment) (left held : Option (List ℕ)) (first now : Debugger) (kept : List ℕ) : Type 0
  where
    pub real : List ℕ
    pub advance : AdvancesTo before (moment_of left held real) first now
    pub stands : StandsFor real kept
