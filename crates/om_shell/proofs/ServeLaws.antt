-- A source that is served, by its verdict.
use Rattle.std.proofs.Common.{◌≡◌, ◌≢◌, inr, ℕ, List, [], Option, None, Ok, Err, refl, ap}
use Rattle.std.specs.Io.KnownBytes.{Appends}
use Rattle.std.proofs.KnownBytes.{Appends-nil, Consumes-nil}
use Rattle.om_lexer.specs.declared.fault.FaultCode.TheVariants.{Memory}
use Rattle.om_lexer.specs.declared.fault.SourceFault.{SourceFault}
use Rattle.om_lexer.specs.Faults.{no_memory}
use Rattle.om_code.specs.declared.raw.Raw.{Raw}
use Rattle.om_book.specs.Books.{BookView}
use Rattle.om_shell_debugger.specs.declared.debugger.Debugger.{Debugger}
use Rattle.om_shell_debugger.specs.Freed.{FreeRun}
use Rattle.om_shell.specs.declared.ended.ShellFault.{ShellFault}
use Rattle.om_shell.specs.declared.ended.ShellFault.TheVariants.{Read}
use Rattle.om_shell.specs.Places.{refusal_text}
use Rattle.om_shell.specs.Progress.{Moment, moment_of, AppendsPart, BreaksOff}
use Rattle.om_shell.specs.Sessions.{due}
use Rattle.om_shell_debugger.specs.Views.{opened}
use Rattle.om_frontend.specs.Verdict.{IsProgramOf, IsRefused}
use Rattle.om_shell.specs.Serving.{due_for, DoneWith, Serves, ServesPart, IsUntouched, ServesAlone, BreaksOffAlone}
use Rattle.om_shell.proofs.Advances.{Advance_none, Breaks_after, Done_unread}

pub is_refused : (source : List ℕ) (fault : SourceFault) → (fault ≢ no_memory → IsRefused source fault)
    → fault.code ≢ Memory → IsRefused source fault
is_refused source fault refuses other = refuses (λ e. other (ap (λ (f : SourceFault). f.code) e))

-- nothing was read or written
pub Breaks_unread : (now : Moment) (d : Debugger) (fault : ShellFault) → fault ≢ Read
    → (runs : List FreeRun) × BreaksOff now (moment_of now.left now.held []) (due d runs) fault
Breaks_unread now d fault other = (
  [],
  record {
    taken = [];
    text = [];
    consumes = Consumes-nil now.left;
    appends = Appends-nil now.held;
    begins = record { rest = _; is = refl };
    answered = λ is_read. absurd (other is_read);
  },
)

-- the line of a refusal is all that is due, whatever follows
pub Serves_refused : (now : Moment) (held : Option (List ℕ)) (workers : ℕ) (source : List ℕ) (fault : SourceFault)
    → IsRefused source fault → Appends now.held held (refusal_text source fault)
    → Serves now (moment_of now.left held []) workers source 1 None
Serves_refused now held workers source fault refused wrote = record {
  verdict = Err fault;
  judged = refused;
  status_is = refl;
  runs = [];
  with_book = record {
    view = None;
    done = Done_unread now held (record { text = refusal_text source fault; view = None })
        (due_for (Err fault) workers [] source) (λ bytes. refl) wrote;
    book_is = refl;
  };
}

pub ServesPart_refused : (now : Moment) (held : Option (List ℕ)) (workers : ℕ) (source : List ℕ)
    (fault : SourceFault) (e : ShellFault) → IsRefused source fault
    → e ≢ Read → AppendsPart now.held held (refusal_text source fault)
    → ServesPart now (moment_of now.left held []) workers source e
ServesPart_refused now held workers source fault e refused other part = record {
  verdict = Err fault;
  judged = refused;
  runs = [];
  part = Breaks_after now now (moment_of now.left held []) [] part.sent (due_for (Err fault) workers [] source)
      (due_for (Err fault) workers [] source) e (Advance_none now (due_for (Err fault) workers [] source))
      (Consumes-nil now.left) part.appends part.begins other;
}

pub Serves_accepted : (before after : Moment) (workers : ℕ) (source : List ℕ) (program : Raw) (status : ℕ)
    (book : Option BookView) → IsProgramOf source program
    → status ≡ 0 → ((runs : List FreeRun) × DoneWith before after (due (opened program workers) runs) book)
    → Serves before after workers source status book
Serves_accepted before after workers source program status book accepted e done = record
    { verdict = Ok program; judged = accepted; status_is = e; runs = done.0; with_book = done.1 }

pub ServesPart_accepted : (before after : Moment) (workers : ℕ) (source : List ℕ) (program : Raw)
    (fault : ShellFault) → IsProgramOf source program
    → ((runs : List FreeRun) × BreaksOff before after (due (opened program workers) runs) fault)
    → ServesPart before after workers source fault
ServesPart_accepted before after workers source program fault accepted part = record
    { verdict = Ok program; judged = accepted; runs = part.0; part = part.1 }

pub untouched : (now : Moment) (fault : ShellFault) → fault ≢ Read
    → IsUntouched now (moment_of now.left now.held []) fault
untouched now fault other = record
    { consumes = Consumes-nil now.left; appends = Appends-nil now.held; no_read = other }

pub ServesAlone_refused : (wa wb : Option (List ℕ)) (workers : ℕ) (source : List ℕ) (fault : SourceFault)
    → IsRefused source fault
    → Appends wa wb (refusal_text source fault) → ServesAlone wa wb workers source 1 None
ServesAlone_refused wa wb workers source fault refused wrote = record {
  verdict = Err fault;
  judged = refused;
  status_is = refl;
  appends = wrote;
  book_is = refl;
}

pub BreaksOffAlone_refused : (wa wb : Option (List ℕ)) (workers : ℕ) (source : List ℕ) (fault : SourceFault)
    (e : ShellFault) → IsRefused source fault
    → e ≢ Read → AppendsPart wa wb (refusal_text source fault) → BreaksOffAlone wa wb workers source e
BreaksOffAlone_refused wa wb workers source fault e refused other part = record
    { no_read = other; part = inr (record { verdict = Err fault; judged = refused; part = part }) }
