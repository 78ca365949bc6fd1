-- What one pass over the pending bytes does.
use Rattle.std.specs.Prelude.{◌≡◌, ◌≢◌, ℕ, ◌≤◌, List, ◌++◌, take, length, Option}
use Rattle.std.specs.Io.KnownBytes.{Appends}
use Rattle.om_shell.specs.declared.ended.ShellFault.{ShellFault}
use Rattle.om_shell.specs.declared.ended.ShellFault.TheVariants.{Read}
use Rattle.om_shell.specs.Transcript.{Transcript, after_text}
use Rattle.om_shell.specs.Progress.{IsBeginning, AreWholeLines}

-- The first `used` bytes were whole lines, and are answered: whatever follows them, what was due is what was written,
-- and then what is due for the rest.
pub record Answers {M : Type 0} (old new : Option (List ℕ)) (bytes : List ℕ) (used : ℕ)
    (due_before due_after : List ℕ → Transcript M) : Type 0 where
  pub text : List ℕ
  pub appends : Appends old new text
  pub within : used ≤ length bytes
  pub whole : AreWholeLines (take used bytes)
  pub is : (future : List ℕ) → due_before (take used bytes ++ future) ≡ after_text text (due_after future)

-- A beginning of what is due was written, whatever follows the bytes. It was no read that failed.
pub record AnswersPart {M : Type 0} (old new : Option (List ℕ)) (bytes : List ℕ) (due : List ℕ → Transcript M)
    (fault : ShellFault) : Type 0 where
  pub text : List ℕ
  pub appends : Appends old new text
  pub begins : (future : List ℕ) → IsBeginning text (due (bytes ++ future)).text
  pub no_read : fault ≢ Read
