-- What has been read and written so far, against what is due for all that comes.
use Rattle.std.specs.Prelude.{◌≡◌, ℕ, List, [], ◌∷◌, ◌++◌, Option, ◌⊎◌}
use Rattle.std.specs.Io.KnownBytes.{Consumes, Appends, IsAtEnd}
use Rattle.om_shell.specs.declared.ended.ShellFault.{ShellFault}
use Rattle.om_shell.specs.declared.ended.ShellFault.TheVariants.{Read}
use Rattle.om_shell.specs.Transcript.{Transcript, after_text}
use Rattle.om_shell.specs.Lines.{HasNoLineEnd}

pub record IsBeginning (front all : List ℕ) : Type 0 where
  pub rest : List ℕ
  pub is : all ≡ front ++ rest

-- the writer took a beginning of the text
pub record AppendsPart (old new : Option (List ℕ)) (text : List ℕ) : Type 0 where
  pub sent : List ℕ
  pub begins : IsBeginning sent text
  pub appends : Appends old new sent

-- a run stops at a reader: some bytes were taken, and none where it is the read that failed
pub record ReadFails (old new : Option (List ℕ)) (fault : ShellFault) : Type 0 where
  pub bytes : List ℕ
  pub consumes : Consumes old new bytes
  pub none : fault ≡ Read → bytes ≡ []

-- no byte, or lines of which the last is ended too
abbrev pub AreWholeLines : List ℕ → Type 0
AreWholeLines bytes = (bytes ≡ []) ⊎ ((front : List ℕ) × (bytes ≡ front ++ 10 ∷ []))

-- What stands at one moment of a run: the bytes that the reader still has, what the writer holds, and the bytes that
-- were taken and not yet handled. The first two are none where they are not known.
pub record Moment : Type 0 where
  pub left : Option (List ℕ)
  pub held : Option (List ℕ)
  pub pending : List ℕ

-- A moment, by its parts. Before a run no bytes are pending. At the end of one those that are left are let go, so an
-- end is written with none pending, and no definition that speaks of an end reads what is pending there.
abbrev pub moment_of : Option (List ℕ) → Option (List ℕ) → List ℕ → Moment
moment_of left held pending = record { left = left; held = held; pending = pending }

-- What some calls did, from one moment to a later one: the bytes that were pending, and those that were taken, are
-- those that were handled, in whole lines, and those that are pending now. Whatever bytes come after the handled ones,
-- what was due for all of them is what was written, and then what is now due for the rest.
pub record Advance {M : Type 0} (before after : Moment) (due_before due_after : List ℕ → Transcript M) : Type 0 where
  pub taken : List ℕ
  pub handled : List ℕ
  pub text : List ℕ
  pub bytes : before.pending ++ taken ≡ handled ++ after.pending
  pub whole : AreWholeLines handled
  pub consumes : Consumes before.left after.left taken
  pub appends : Appends before.held after.held text
  pub is : (future : List ℕ) → due_before (handled ++ future) ≡ after_text text (due_after future)

-- The text is what is due for the whole lines at the front of the bytes: each was answered.
pub record AnswersWholeLines {M : Type 0} (bytes text : List ℕ) (due : List ℕ → Transcript M) : Type 0 where
  pub whole : List ℕ
  pub rest : List ℕ
  pub is : bytes ≡ whole ++ rest
  pub ended : AreWholeLines whole
  pub unended : HasNoLineEnd rest
  pub answered : text ≡ (due whole).text

-- What was written is a beginning of what is due for the bytes that were pending or taken; and where a read failed,
-- every whole line before it was answered.
pub record BreaksOff {M : Type 0} (before after : Moment) (due : List ℕ → Transcript M) (fault : ShellFault) : Type 0
  where
    pub taken : List ℕ
    pub text : List ℕ
    pub consumes : Consumes before.left after.left taken
    pub appends : Appends before.held after.held text
    pub begins : IsBeginning text (due (before.pending ++ taken)).text
    pub answered : fault ≡ Read → AnswersWholeLines (before.pending ++ taken) text due

-- What was written, and the view, are those that are due for the bytes that were pending or taken; and the input
-- has ended, or nothing that follows could change what is due.
pub record IsDone {M : Type 0} (before after : Moment) (due : List ℕ → Transcript M) (view : Option M) : Type 0 where
  pub taken : List ℕ
  pub consumes : Consumes before.left after.left taken
  pub appends : Appends before.held after.held (due (before.pending ++ taken)).text
  pub left : view ≡ (due (before.pending ++ taken)).view
  pub stops : IsAtEnd after.left
      ⊎ ((future : List ℕ) → due (before.pending ++ taken ++ future) ≡ due (before.pending ++ taken))
