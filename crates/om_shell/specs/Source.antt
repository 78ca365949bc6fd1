-- The source, line by line.
use Rattle.std.specs.Prelude.{◌≡◌, ℕ, ◌≤◌, false, List, [], ◌∷◌, ◌++◌, take, length, Option}
use Rattle.std.specs.Io.KnownBytes.{Consumes, IsAtEnd}
use Rattle.std.specs.Str.Lines.{lines}
use Rattle.om_shell.specs.declared.ended.ShellFault.{ShellFault}
use Rattle.om_shell.specs.declared.ended.ShellFault.TheVariants.{Read}
use Rattle.om_shell.specs.Progress.{AreWholeLines}
use Rattle.om_shell.specs.Lines.{HasNoLineEnd, parts_of, source_in, commands_in, has_mark, kept}

-- The first `at` bytes are whole lines of the source.
pub record Scanned (bytes : List ℕ) (at : ℕ) : Type 0 where
  pub within : at ≤ length bytes
  pub whole : AreWholeLines (take at bytes)
  pub source : (future : List ℕ) → source_in (parts_of (take at bytes ++ future)) ≡ take at bytes
      ++ source_in (parts_of future)
  pub commands : (future : List ℕ) → commands_in (parts_of (take at bytes ++ future)) ≡ commands_in (parts_of future)
  pub unmarked : (future : List ℕ) → has_mark (parts_of (take at bytes ++ future)) ≡ has_mark (parts_of future)

-- The source is the first `at` bytes, and the mark's line ends at `after`.
pub record IsMarked (bytes : List ℕ) (at after : ℕ) : Type 0 where
  pub before : at ≤ length bytes
  pub within : after ≤ length bytes
  pub ended : (front : List ℕ) × (take after bytes ≡ front ++ 10 ∷ [])
  pub source : (future : List ℕ) → source_in (parts_of (take after bytes ++ future)) ≡ take at bytes
  pub commands : (future : List ℕ) → commands_in (parts_of (take after bytes ++ future)) ≡ lines future

-- No line but the last may be the mark, so the source is the first `at` bytes, and there are no commands.
pub record IsUnmarked (bytes : List ℕ) (at : ℕ) : Type 0 where
  pub before : at ≤ length bytes
  pub source : source_in (parts_of bytes) ≡ take at bytes
  pub commands : commands_in (parts_of bytes) ≡ []

-- Bytes of the source were taken; where it is a read that failed, the mark's line was not yet among them.
pub record ReadsNoMark (old new : Option (List ℕ)) (fault : ShellFault) : Type 0 where
  pub taken : List ℕ
  pub consumes : Consumes old new taken
  pub unmarked : fault ≡ Read → has_mark (parts_of taken) ≡ false

-- While the source is read: this is kept of the bytes that were taken, and the last of them are pending. The bytes
-- before these are handled. `stub` is no more than the beginning of a line, and what is said holds of all that may come
-- after it.
pub record KeepsSource (taken source pending : List ℕ) : Type 0 where
  pub handled : List ℕ
  pub stub : List ℕ
  pub more : List ℕ
  pub bytes : taken ≡ handled ++ pending
  pub begins : pending ≡ stub ++ more
  pub unended : HasNoLineEnd stub
  pub few : length source ≤ 4194304
  pub source_is : (future : List ℕ) → kept (source_in (parts_of (handled ++ (stub ++ future))))
      ≡ kept (source ++ source_in (parts_of (stub ++ future)))
  pub commands_are : (future : List ℕ) → commands_in (parts_of (handled ++ (stub ++ future)))
      ≡ commands_in (parts_of (stub ++ future))
  pub unmarked : (future : List ℕ) → has_mark (parts_of (handled ++ (stub ++ future)))
      ≡ has_mark (parts_of (stub ++ future))

-- The bytes that were taken are whole lines up to the mark's, and then those that are pending. This is kept of the
-- source.
pub record EndsSource (taken source pending : List ℕ) : Type 0 where
  pub handled : List ℕ
  pub bytes : taken ≡ handled ++ pending
  pub whole : AreWholeLines handled
  pub source_is : (future : List ℕ) → kept (source_in (parts_of (handled ++ future))) ≡ source
  pub commands_are : (future : List ℕ) → commands_in (parts_of (handled ++ future)) ≡ lines future

-- Bytes were taken up to the mark's line or past it.
pub record ReadsMark (old new : Option (List ℕ)) (source pending : List ℕ) : Type 0 where
  pub taken : List ℕ
  pub consumes : Consumes old new taken
  pub ends : EndsSource taken source pending

-- All bytes were taken, and no command is among them. This is kept of the source.
pub record ReadsToEnd (old new : Option (List ℕ)) (source : List ℕ) : Type 0 where
  pub taken : List ℕ
  pub consumes : Consumes old new taken
  pub at_end : IsAtEnd new
  pub source_is : kept (source_in (parts_of taken)) ≡ source
  pub commands_are : commands_in (parts_of taken) ≡ []

-- Some bytes were taken, of which this is kept.
pub record Reads (old new : Option (List ℕ)) (source pending : List ℕ) : Type 0 where
  pub taken : List ℕ
  pub consumes : Consumes old new taken
  pub keeps : KeepsSource taken source pending
