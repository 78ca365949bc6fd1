-- A session, a line at a time.
use Rattle.std.proofs.Common.{◌≡◌, ◌≢◌, ℕ, ◌+◌, ◌<◌, ◌≤◌, Bool, true, false, cond, nat_eq, List, [], ◌∷◌, ◌++◌, ◌==◌}
use Rattle.std.proofs.Common.{Option, Some, length, take, drop, refl, sym, ap, subst, ◌∙◌, arith, inl, inr}
use Rattle.std.proofs.Common.{append_assoc, append-nil, take-add, length-drop, take-append-drop}
use Rattle.std.proofs.lemmas.Bool.Decides.{nat_tests}
use Rattle.std.specs.List.{position_or_len}
use Rattle.std.specs.Str.Lines.{lines, lines_of_parts, strip_carriage_return}
use Rattle.std.specs.Io.KnownBytes.{Appends, Consumes}
use Rattle.std.proofs.KnownBytes.{Appends-nil, Appends-trans}
use Rattle.om_shell_commands.specs.Commands.{request_of}
use Rattle.om_shell_debugger.specs.declared.debugger.Debugger.{Debugger}
use Rattle.om_shell_debugger.specs.Freed.{FreeRun}
use Rattle.om_shell_debugger.specs.Views.{Answer, answered, IsAnswered}
use Rattle.om_shell.specs.declared.ended.ShellFault.{ShellFault}
use Rattle.om_shell.specs.declared.ended.ShellFault.TheVariants.{Read}
use Rattle.om_shell.specs.Lines.{HasNoLineEnd}
use Rattle.om_shell.specs.Transcript.{Transcript, after_text}
use Rattle.om_shell.specs.Progress.{Moment, moment_of, IsBeginning, AppendsPart, AreWholeLines, Advance}
use Rattle.om_shell.specs.Batch.{Answers, AnswersPart}
use Rattle.om_shell.specs.Sessions.{over, after_answer, session, due, due_behind, AnswersBatch, AdvancesTo}
use Rattle.om_shell.proofs.Advances.{AreWholeLines-append, after_text-append, Advance_none, Advance_trans, Advance_read}
use Rattle.om_shell.proofs.Advances.{Advance_answers}
use Rattle.om_shell.proofs.LineLaws.{lines_first, only_part}
use Rattle.om_shell.proofs.SourceLaws.{line_with_end}

-- behind an answer that doesn't end the session its view goes on
rest_due : (quits : Bool) (after : Debugger) (later : List FreeRun) (future : List ℕ)
    → cond quits (over after) (due after later future) ≡ due_behind quits after later future
rest_due true after later future = refl
rest_due false after later future = refl

pub beginning_of_beginning : (xs ys zs : List ℕ) → IsBeginning xs ys → IsBeginning ys zs → IsBeginning xs zs
beginning_of_beginning xs ys zs p q = record {
  rest = p.rest ++ q.rest;
  is = q.is ∙ ap (λ l. l ++ q.rest) p.is
      ∙ append_assoc xs p.rest q.rest;
}

pub after_beginning : (text front all : List ℕ) → IsBeginning front all → IsBeginning (text ++ front) (text ++ all)
after_beginning text front all p = record {
  rest = p.rest;
  is = ap (λ l. text ++ l) p.is
      ∙ sym (append_assoc text front p.rest);
}

pub nothing_begins : (text : List ℕ) → IsBeginning [] text
nothing_begins text = record { rest = text; is = refl }

-- the bytes up to the end of the next line are one more line
next_line : (bytes : List ℕ) (at n : ℕ) (text future : List ℕ) (la : List ℕ → Transcript Debugger) (d : Debugger)
    (now : List FreeRun)
    → n ≡ position_or_len (λ byte. byte == 10) (drop at bytes) → n < length (drop at bytes)
    → ((future : List ℕ) → la (take at bytes ++ future) ≡ after_text text (due d now future))
    → la (take (at + (n + 1)) bytes ++ future) ≡ after_text text
    (session d now (strip_carriage_return (take n (drop at bytes)) ∷ lines future))
next_line bytes at n text future la d now e bound is =
    let cut : take (at + (n + 1)) bytes ++ future ≡ take at bytes ++ (take (n + 1) (drop at bytes) ++ future) =
    ap (λ l. l ++ future) (take-add at (n + 1) bytes) ∙ append_assoc (take at bytes) (take (n + 1) (drop at bytes))
    future in
    let line : lines (take (n + 1) (drop at bytes) ++ future) ≡ strip_carriage_return (take n (drop at bytes))
    ∷ lines future =
    rw e (lines_first (drop at bytes) future (omega arith)) in
    ap la cut ∙ is (take (n + 1) (drop at bytes) ++ future) ∙ ap (λ l. after_text text (session d now l)) line

pub within_next : (bytes : List ℕ) (at n : ℕ) → at ≤ length bytes → n < length (drop at bytes)
    → at + (n + 1) ≤ length bytes
within_next bytes at n h bound = omega (arith, length-drop at bytes)

-- whole lines, and a further one
whole_next : (bytes : List ℕ) (at n : ℕ) → n ≡ position_or_len (λ byte. byte == 10) (drop at bytes)
    → n < length (drop at bytes) → AreWholeLines (take (at + (n + 1)) bytes)
whole_next bytes at n e bound =
    inr (
      take at bytes ++ take n (drop at bytes),
      take-add at (n + 1) bytes ∙ ap (λ l. take at bytes ++ l) (line_with_end (drop at bytes) n e bound)
          ∙ sym (append_assoc (take at bytes) (take n (drop at bytes)) (10 ∷ [])),
    )

-- a further line is answered
Answers_next : (a b c : Option (List ℕ)) (bytes line : List ℕ) (at n : ℕ) (la : List ℕ → Transcript Debugger)
    (d after : Debugger) (now later : List FreeRun) (text : List ℕ) (quits : Bool)
    → Answers a b bytes at la (due d now)
    → n ≡ position_or_len (λ byte. byte == 10) (drop at bytes) → n < length (drop at bytes)
    → line ≡ strip_carriage_return (take n (drop at bytes))
    → answered d now line ≡ record { text = text; view = after; quits = quits; runs = later } → Appends b c text
    → Answers a c bytes (at + (n + 1)) la (due_behind quits after later)
Answers_next a b c bytes line at n la d after now later text quits so_far e bound same told more = record {
  text = so_far.text ++ text;
  appends = Appends-trans _ _ _ _ _ so_far.appends more;
  within = within_next bytes at n so_far.within bound;
  whole = whole_next bytes at n e bound;
  is = λ future. next_line bytes at n so_far.text future la d now e bound so_far.is
      ∙ ap (λ l. after_text so_far.text (session d now (l ∷ lines future))) (sym same)
      ∙ ap (λ (x : Answer). after_text so_far.text (after_answer x (session x.view x.runs (lines future)))) told
      ∙ ap (λ t. after_text so_far.text (after_text text t)) (rest_due quits after later future)
      ∙ sym (after_text-append so_far.text text (due_behind quits after later future));
}

pub Batch_none : (a : Option (List ℕ)) (bytes : List ℕ) (d : Debugger) → Appends a a [] → AnswersBatch a a bytes 0 d
    false d
Batch_none a bytes d kept = (
  [],
  λ later. record {
    text = [];
    appends = kept;
    within = omega arith;
    whole = inl refl;
    is = λ future. refl;
  },
)

pub Batch_next : (a b c : Option (List ℕ)) (bytes line : List ℕ) (at n : ℕ) (before d after : Debugger)
    (text : List ℕ) (quits : Bool)
    → AnswersBatch a b bytes at before false d
    → n ≡ position_or_len (λ byte. byte == 10) (drop at bytes) → n < length (drop at bytes)
    → line ≡ strip_carriage_return (take n (drop at bytes))
    → IsAnswered d line text after quits → Appends b c text
    → AnswersBatch a c bytes (at + (n + 1)) before quits after
Batch_next a b c bytes line at n before d after text quits p e bound same q more = (
  p.0 ++ q.runs,
  λ later. Answers_next a b c bytes line at n (due before ((p.0 ++ q.runs) ++ later)) d after (q.runs ++ later)
      later text quits
      (subst (λ (rs : List FreeRun). Answers a b bytes at (due before rs) (due d (q.runs ++ later)))
      (sym (append_assoc p.0 q.runs later)) (p.1 (q.runs ++ later)))
      e bound same (q.is later) more,
)

-- behind the bytes of a batch, what is due for them all is what was said and what is due behind
batch_due : (bytes future : List ℕ) (at : ℕ) (text : List ℕ) (la lb : List ℕ → Transcript Debugger)
    → ((future : List ℕ) → la (take at bytes ++ future) ≡ after_text text (lb future))
    → la (bytes ++ future) ≡ after_text text (lb (drop at bytes ++ future))
batch_due bytes future at text la lb is =
    ap la (ap (λ l. l ++ future) (sym (take-append-drop at bytes)) ∙ append_assoc (take at bytes) (drop at bytes) future)
    ∙ is (drop at bytes ++ future)

-- what was said for whole lines is a beginning of what is due
pub Batch_begins : (a b : Option (List ℕ)) (bytes : List ℕ) (used : ℕ) (before after : Debugger) (quits : Bool)
    (fault : ShellFault)
    → AnswersBatch a b bytes used before quits after → fault ≢ Read
    → (runs : List FreeRun) × AnswersPart a b bytes (due before runs) fault
Batch_begins a b bytes used before after quits fault p other =
    let said = p.1 [] in (
      p.0 ++ [],
      record {
        text = said.text;
        appends = said.appends;
        begins = λ future. record {
          rest = _;
          is = ap (λ (t : Transcript Debugger). t.text) (batch_due bytes future used said.text (due before (p.0 ++ []))
              (due_behind quits after []) said.is);
        };
        no_read = other;
      },
    )

Answers_further : (a b c : Option (List ℕ)) (bytes items : List ℕ) (at used : ℕ)
    (la lb lc : List ℕ → Transcript Debugger)
    → Answers a b bytes at la lb → Answers (Some []) (Some items) (drop at bytes) used lb lc → Appends b c items
    → Answers a c bytes (at + used) la lc
Answers_further a b c bytes items at used la lb lc p q wrote = record {
  text = p.text ++ items;
  appends = Appends-trans _ _ _ _ _ p.appends wrote;
  within = omega (arith, p.within, q.within, length-drop at bytes);
  whole = subst AreWholeLines (sym (take-add at used bytes))
      (AreWholeLines-append (take at bytes) (take used (drop at bytes)) p.whole q.whole);
  is = λ future. ap la (ap (λ l. l ++ future) (take-add at used bytes)
      ∙ append_assoc (take at bytes) (take used (drop at bytes)) future)
      ∙ p.is (take used (drop at bytes) ++ future)
      ∙ ap (after_text p.text) (q.is future ∙ ap (λ text. after_text text (lc future)) (sym q.appends))
      ∙ sym (after_text-append p.text items (lc future));
}

-- a further batch is written
pub Batch_further : (a b c : Option (List ℕ)) (bytes items : List ℕ) (at used : ℕ) (before d after : Debugger)
    (quits : Bool)
    → AnswersBatch a b bytes at before false d → AnswersBatch (Some []) (Some items) (drop at bytes) used d quits after
    → Appends b c items → AnswersBatch a c bytes (at + used) before quits after
Batch_further a b c bytes items at used before d after quits p q wrote = (
  p.0 ++ q.0,
  λ later. subst (λ (rs : List FreeRun). Answers a c bytes (at + used) (due before rs) (due_behind quits after later))
      (sym (append_assoc p.0 q.0 later))
      (Answers_further a b c bytes items at used _ _ _ (p.1 (q.0 ++ later)) (q.1 later) wrote),
)

-- a beginning of a further batch is written
pub Batch_breaks : (a b c : Option (List ℕ)) (bytes items : List ℕ) (at : ℕ) (before d : Debugger)
    (cause fault : ShellFault)
    → AnswersBatch a b bytes at before false d
    → ((runs : List FreeRun) × AnswersPart (Some []) (Some items) (drop at bytes) (due d runs) cause)
    → AppendsPart b c items → fault ≢ Read
    → (runs : List FreeRun) × AnswersPart a c bytes (due before runs) fault
Batch_breaks a b c bytes items at before d cause fault p q part other =
    let so_far = p.1 q.0 in (
      p.0 ++ q.0,
      record {
        text = so_far.text ++ part.sent;
        appends = Appends-trans _ _ _ _ _ so_far.appends part.appends;
        begins = λ future.
            let said = beginning_of_beginning _ _ _ (subst (IsBeginning part.sent) q.1.appends part.begins)
            (q.1.begins future) in
            let begun = after_beginning so_far.text _ _ said in
            record {
              rest = begun.rest;
              is = ap (λ (t : Transcript Debugger). t.text) (batch_due bytes future at so_far.text
                  (due before (p.0 ++ q.0)) (due d q.0) so_far.is)
                  ∙ begun.is;
            };
        no_read = other;
      },
    )

pub all_begins : (a b : Option (List ℕ)) (text : List ℕ) → Appends a b text → AppendsPart a b text
all_begins a b text wrote = record {
  sent = text;
  begins = record { rest = []; is = sym (append-nil text) };
  appends = wrote;
}

-- the transcript of one answer, and none behind it
abbrev only_answer : Answer → Transcript Debugger
only_answer a = record { text = a.text; view = Some a.view }

either_way : (a : Answer) (quits : Bool) → after_text a.text (cond quits (over a.view) (over a.view)) ≡ only_answer a
either_way a true = ap (λ text. record { text = text; view = Some a.view }) (append-nil a.text)
either_way a false = ap (λ text. record { text = text; view = Some a.view }) (append-nil a.text)

no_line : (d : Debugger) (runs : List FreeRun) → over d ≡ only_answer (answered d runs [])
unfolding answered request_of
no_line d runs = refl

last_lines : (d : Debugger) (runs : List FreeRun) (bytes : List ℕ) → session d runs (lines_of_parts (bytes ∷ []))
    ≡ only_answer (answered d runs bytes)
last_lines d runs [] = no_line d runs
last_lines d runs (byte ∷ bytes) =
    let some : nat_eq (length (byte ∷ bytes)) 0 ≡ false = grind (arith, nat_tests) in
    rw some (either_way (answered d runs (byte ∷ bytes)) (answered d runs (byte ∷ bytes)).quits)

-- what is left at the end of the input is the last line
last_line : (d : Debugger) (runs : List FreeRun) (bytes : List ℕ) → HasNoLineEnd bytes → due d runs bytes
    ≡ only_answer (answered d runs bytes)
last_line d runs bytes h = ap (λ parts. session d runs (lines_of_parts parts)) (only_part (λ byte. byte == 10) bytes
    h) ∙ last_lines d runs bytes

pub last_answered : (d after : Debugger) (now : List FreeRun) (bytes text : List ℕ) (quits : Bool) → HasNoLineEnd bytes
    → answered d now bytes ≡ record { text = text; view = after; quits = quits; runs = [] }
    → due d now bytes ≡ record { text = text; view = Some after }
last_answered d after now bytes text quits h told = last_line d now bytes h ∙ ap only_answer told

pub last_begins : (d : Debugger) (runs : List FreeRun) (front bytes : List ℕ) → HasNoLineEnd bytes
    → IsBeginning front (answered d runs bytes).text → IsBeginning front (due d runs (bytes ++ [])).text
last_begins d runs front bytes h p =
    record {
      rest = p.rest;
      is = ap (λ l. (due d runs l).text) (append-nil bytes)
          ∙ ap (λ (t : Transcript Debugger). t.text) (last_line d runs bytes h) ∙ p.is;
    }

-- a part of an answer was written, or nothing
pub part_of : (a b : Option (List ℕ)) (d after : Debugger) (line text : List ℕ) (quits : Bool) → IsAnswered d line
    text after quits → AppendsPart a b text
    → (runs : List FreeRun) × AppendsPart a b (answered d runs line).text
part_of a b d after line text quits p part =
    (p.runs ++ [], subst (AppendsPart a b) (sym (ap (λ (x : Answer). x.text) (p.is []))) part)

pub no_part : (a : Option (List ℕ)) (d : Debugger) (line : List ℕ) → (runs : List FreeRun) × AppendsPart a a
    (answered d runs line).text
no_part a d line = ([], record { sent = []; begins = nothing_begins _; appends = Appends-nil a })

-- advances, by what the free runs do
pub Advances_none : (now : Moment) (d : Debugger) → AdvancesTo now now d d
Advances_none now d = ([], λ later. Advance_none now (due d later))

pub Advances_trans : (a b c : Moment) (d e f : Debugger) → AdvancesTo a b d e → AdvancesTo b c e f → AdvancesTo a c d f
Advances_trans a b c d e f p q = (
  p.0 ++ q.0,
  λ later. subst (λ (rs : List FreeRun). Advance a c (due d rs) (due f later)) (sym (append_assoc p.0 q.0 later))
      (Advance_trans a b c _ _ _ (p.1 (q.0 ++ later)) (q.1 later)),
)

pub Advances_read : (now : Moment) (left : Option (List ℕ)) (pending bytes : List ℕ) (d : Debugger)
    → Consumes now.left left bytes → pending ≡ now.pending ++ bytes
    → AdvancesTo now (moment_of left now.held pending) d d
Advances_read now left pending bytes d p e = ([], λ later. Advance_read now left pending bytes (due d later) p e)

pub Advances_answers : (now : Moment) (held : Option (List ℕ)) (pending : List ℕ) (used : ℕ) (d after : Debugger)
    → AnswersBatch now.held held now.pending used d false after → pending ≡ drop used now.pending
    → AdvancesTo now (moment_of now.left held pending) d after
Advances_answers now held pending used d after p e = (
  p.0,
  λ later. Advance_answers now held pending used _ _ (p.1 later) e,
)
