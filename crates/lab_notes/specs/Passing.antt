-- What has been read and written so far.
use Rattle.std.specs.Prelude.{◌≡◌, ℕ, List, ◌++◌, Option}
use Rattle.std.specs.Io.KnownBytes.{Consumes, Appends, IsAtEnd}
use Rattle.om_shell.specs.Progress.{IsBeginning, AppendsPart}
use Rattle.lab_notes.specs.Parts.{AreParts, IsAnnotated, IsPart}

-- The bytes that were taken are parts, for which all was written, and those that are pending.
pub record Passed (left_before left_after held_before held_after : Option (List ℕ)) (pending : List ℕ) (due : ℕ) : Type
    0 where
  pub taken : List ℕ
  pub came : List ℕ
  pub text : List ℕ
  pub consumes : Consumes left_before left_after taken
  pub appends : Appends held_before held_after text
  pub parts : AreParts came text due
  pub is : taken ≡ came ++ pending

-- a part at the front of what is pending was written
pub record PassesPart (held_before held_after : Option (List ℕ)) (pending_before pending_after : List ℕ)
    (due_before due_after : ℕ) : Type 0 where
  pub part : List ℕ
  pub text : List ℕ
  pub is_part : IsPart due_before part text due_after
  pub pending : pending_before ≡ part ++ pending_after
  pub appends : Appends held_before held_after text

-- a beginning of such a part was written
pub record BreaksPart (held_before held_after : Option (List ℕ)) (pending : List ℕ) (due : ℕ) : Type 0 where
  pub part : List ℕ
  pub text : List ℕ
  pub rest : List ℕ
  pub after : ℕ
  pub is_part : IsPart due part text after
  pub is : pending ≡ part ++ rest
  pub begins : AppendsPart held_before held_after text

-- the reader was read to its end, and all that came is written with words behind its lines
pub record PassesAll (left_before left_after held_before held_after : Option (List ℕ)) : Type 0 where
  pub came : List ℕ
  pub written : List ℕ
  pub consumes : Consumes left_before left_after came
  pub at_end : IsAtEnd left_after
  pub annotated : IsAnnotated came written
  pub appends : Appends held_before held_after written

-- Bytes were taken, and of what is written for a beginning of them a beginning was written.
pub record PassesBeginning (left_before left_after held_before held_after : Option (List ℕ)) : Type 0 where
  pub taken : List ℕ
  pub came : List ℕ
  pub written : List ℕ
  pub consumes : Consumes left_before left_after taken
  pub begins : IsBeginning came taken
  pub annotated : IsAnnotated came written
  pub appends : AppendsPart held_before held_after written

-- whatever was passed on before: it is so behind the call, with this pending and due
abbrev pub GoesOn : Option (List ℕ) → Option (List ℕ) → List ℕ → List ℕ → ℕ → ℕ → Type 0
GoesOn held_before held_after pending_before pending_after due_before due_after =
    (left_before left_after held : Option (List ℕ))
    → Passed left_before left_after held held_before pending_before due_before
    → Passed left_before left_after held held_after pending_after due_after

-- whatever was passed on before: a beginning of what is written for what comes is written then
abbrev pub BreaksOff : Option (List ℕ) → Option (List ℕ) → List ℕ → ℕ → Type 0
BreaksOff held_before held_after pending due =
    (left_before left_after held : Option (List ℕ)) → Passed left_before left_after held held_before pending due
    → PassesBeginning left_before left_after held held_after
