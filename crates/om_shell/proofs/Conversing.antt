-- A conversation, step by step: what is kept stands for the bytes that are not answered yet.
use Rattle.std.proofs.Common.{◌≡◌, ◌≢◌, ℕ, Bool, true, false, List, [], ◌++◌, Option, Some, take, drop, refl, sym, ap}
use Rattle.std.proofs.Common.{subst, ◌∙◌}
use Rattle.std.specs.Io.KnownBytes.{Appends, Consumes, IsAtEnd}
use Rattle.std.proofs.KnownBytes.{Consumes-nil}
use Rattle.om_shell_debugger.specs.declared.debugger.Debugger.{Debugger}
use Rattle.om_shell_debugger.specs.Freed.{FreeRun}
use Rattle.om_shell_debugger.specs.Views.{answered, IsAnswered}
use Rattle.om_shell.specs.declared.ended.ShellFault.{ShellFault}
use Rattle.om_shell.specs.declared.ended.ShellFault.TheVariants.{Read}
use Rattle.om_shell.specs.Batch.{AnswersPart}
use Rattle.om_shell.specs.Lines.{HasNoLineEnd}
use Rattle.om_shell.specs.Progress.{Moment, moment_of, AppendsPart, BreaksOff, IsBeginning, IsDone, ReadFails}
use Rattle.om_shell.specs.Sessions.{due, due_behind, AnswersBatch}
use Rattle.om_shell.specs.Stubs.{StandsFor, Conversed}
use Rattle.om_shell.specs.Transcript.{Transcript}
use Rattle.om_shell.proofs.Advances.{Advance_trans, Advance_answers, Done_at_end, Done_settled, Breaks_after}
use Rattle.om_shell.proofs.Advances.{Breaks_at_read}
use Rattle.om_shell.proofs.SessionLaws.{last_answered, last_begins, Advances_none, Advances_trans, Advances_read}
use Rattle.om_shell.proofs.SessionLaws.{Advances_answers}
use Rattle.om_shell.proofs.Stubs.{splits, stands_batch, stands_due, stands_due_all, stands_no_end, stands_read}
use Rattle.om_shell.proofs.Stubs.{stands_same, stands_short, no_end_front}

pub conversed_none : (left held : Option (List ℕ)) (d : Debugger) (pending : List ℕ)
    → Conversed (moment_of left held pending) left held d d pending
conversed_none left held d pending = record {
  real = pending;
  advance = Advances_none (moment_of left held pending) d;
  stands = stands_same pending;
}

-- whole lines are answered, and of the rest as much is kept as shows that it is too long
pub conversed_lines : (before : Moment) (left held held' : Option (List ℕ)) (first d after : Debugger)
    (kept short : List ℕ) (used : ℕ)
    → Conversed before left held first d kept → AnswersBatch held held' kept used d false after
    → HasNoLineEnd (drop used kept) → short ≡ take 1026 (drop used kept)
    → Conversed before left held' first after short
conversed_lines before left held held' first d after kept short used c batch none e =
    let split = splits c.real kept used c.stands (batch.1 []).within (batch.1 []).whole in
    let lines = stands_batch held held' c.real kept used d after false split batch in
    let rest = drop split.far c.real in
    record {
      real = rest;
      advance = Advances_trans before (moment_of left held c.real) (moment_of left held' rest) first d after c.advance
          (Advances_answers (moment_of left held c.real) held' rest split.far d after lines refl);
      stands = stands_short rest (drop used kept) short none e split.left;
    }

pub short_unended : (kept short : List ℕ) → HasNoLineEnd kept → short ≡ take 1026 kept → HasNoLineEnd short
short_unended kept short none e = subst HasNoLineEnd (sym e) (no_end_front 1026 kept none)

pub conversed_read : (before : Moment) (left later held : Option (List ℕ)) (first d : Debugger)
    (kept more bytes : List ℕ)
    → Conversed before left held first d kept → Consumes left later bytes → more ≡ kept ++ bytes
    → Conversed before later held first d more
conversed_read before left later held first d kept more bytes c read e =
    let real = c.real ++ bytes in
    record {
      real = real;
      advance = Advances_trans before (moment_of left held c.real) (moment_of later held real) first d d c.advance
          (Advances_read (moment_of left held c.real) later real bytes d read refl);
      stands = stands_read c.real kept real more bytes c.stands refl e;
    }

-- `quit` ends it
pub conversed_quits : (before : Moment) (left held held' : Option (List ℕ)) (first d after : Debugger)
    (kept : List ℕ) (used : ℕ)
    → Conversed before left held first d kept → AnswersBatch held held' kept used d true after
    → (runs : List FreeRun) × IsDone before (moment_of left held' []) (due first runs) (Some after)
conversed_quits before left held held' first d after kept used c batch =
    let split = splits c.real kept used c.stands (batch.1 []).within (batch.1 []).whole in
    let lines = stands_batch held held' c.real kept used d after true split batch in
    let rest = drop split.far c.real in
    let runs = lines.0 ++ [] in
    let all = c.advance.0 ++ runs in (
      all,
      Done_settled before (moment_of left held' rest) (due first all) (Some after)
          (Advance_trans before (moment_of left held c.real) (moment_of left held' rest) (due first all) (due d runs)
          (due_behind true after []) (c.advance.1 runs)
          (Advance_answers (moment_of left held c.real) held' rest split.far (due d runs) (due_behind true after [])
          (lines.1 []) refl)),
    )

-- what begins the text that is due for what is kept begins what is due for the bytes that it stands for
begins_real : (d : Debugger) (runs : List FreeRun) (real kept text : List ℕ) → StandsFor real kept
    → IsBeginning text (due d runs (kept ++ [])).text → IsBeginning text (due d runs (real ++ [])).text
begins_real d runs real kept text stands begins =
    subst (IsBeginning text) (ap (λ (t : Transcript Debugger). t.text) (sym (stands_due d runs real kept [] stands)))
    begins

-- a part of the answers was written
pub conversed_breaks : (before : Moment) (left held held' : Option (List ℕ)) (first d : Debugger) (kept : List ℕ)
    (fault : ShellFault)
    → Conversed before left held first d kept
    → ((runs : List FreeRun) × AnswersPart held held' kept (due d runs) fault)
    → (runs : List FreeRun) × BreaksOff before (moment_of left held' []) (due first runs) fault
conversed_breaks before left held held' first d kept fault c part =
    let runs = part.0 in
    let all = c.advance.0 ++ runs in (
      all,
      Breaks_after before (moment_of left held c.real) (moment_of left held' []) [] part.1.text (due first all)
          (due d runs) fault (c.advance.1 runs) (Consumes-nil left) part.1.appends
          (begins_real d runs c.real kept part.1.text c.stands (part.1.begins [])) part.1.no_read,
    )

-- a read failed
pub conversed_unread : (before : Moment) (left later held : Option (List ℕ)) (first d : Debugger) (kept : List ℕ)
    (fault : ShellFault)
    → Conversed before left held first d kept → HasNoLineEnd kept → ReadFails left later fault
    → (runs : List FreeRun) × BreaksOff before (moment_of later held []) (due first runs) fault
conversed_unread before left later held first d kept fault c none fails =
    let all = c.advance.0 ++ [] in (
      all,
      Breaks_at_read before (moment_of left held c.real) later fails.bytes (due first all) (due d []) fault
          (c.advance.1 []) fails.consumes fails.none (stands_no_end c.real kept c.stands none) refl,
    )

-- the last line is answered
pub conversed_ends : (before : Moment) (left held held' : Option (List ℕ)) (first d after : Debugger)
    (kept text : List ℕ) (quits : Bool)
    → Conversed before left held first d kept → HasNoLineEnd kept → IsAtEnd left → Appends held held' text
    → IsAnswered d kept text after quits
    → (runs : List FreeRun) × IsDone before (moment_of left held' []) (due first runs) (Some after)
conversed_ends before left held held' first d after kept text quits c none end wrote said =
    let runs = said.runs ++ [] in
    let all = c.advance.0 ++ runs in (
      all,
      Done_at_end before (moment_of left held c.real) held' (due first all) (due d runs)
          (record { text = text; view = Some after }) (Some after) (c.advance.1 runs) end
          (stands_due_all d runs c.real kept c.stands ∙ last_answered d after runs kept text quits none (said.is []))
          wrote refl,
    )

-- a part of the last answer was written
pub conversed_breaks_last : (before : Moment) (left held held' : Option (List ℕ)) (first d : Debugger)
    (kept : List ℕ) (fault : ShellFault)
    → Conversed before left held first d kept → HasNoLineEnd kept → fault ≢ Read
    → ((runs : List FreeRun) × AppendsPart held held' (answered d runs kept).text)
    → (runs : List FreeRun) × BreaksOff before (moment_of left held' []) (due first runs) fault
conversed_breaks_last before left held held' first d kept fault c none other part =
    let runs = part.0 in
    let all = c.advance.0 ++ runs in (
      all,
      Breaks_after before (moment_of left held c.real) (moment_of left held' []) [] part.1.sent (due first all)
          (due d runs) fault (c.advance.1 runs) (Consumes-nil left) part.1.appends
          (begins_real d runs c.real kept part.1.sent c.stands
          (last_begins d runs part.1.sent kept none part.1.begins)) other,
    )
