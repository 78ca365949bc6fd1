-- A whole run, from its parts.
use Rattle.std.proofs.Common.{◌≡◌, ◌≢◌, ◌⊎◌, inl, inr, ℕ, List, [], ◌++◌, Option, None, Some, IfSome, refl}
use Rattle.std.proofs.Common.{sym, ap, subst, ◌∙◌, append_assoc, append-nil, Result, Ok, Err, IfErr}
use Rattle.std.specs.Io.KnownBytes.{Appends, Consumes}
use Rattle.std.proofs.KnownBytes.{Appends-nil, Consumes-trans}
use Rattle.om_lexer.specs.declared.fault.SourceFault.{SourceFault}
use Rattle.om_code.specs.declared.raw.Raw.{Raw}
use Rattle.om_book.specs.Books.{BookView}
use Rattle.om_shell_debugger.specs.declared.debugger.Debugger.{Debugger}
use Rattle.om_shell_debugger.specs.Freed.{FreeRun}
use Rattle.om_shell.specs.declared.ended.ShellFault.{ShellFault}
use Rattle.om_shell.specs.declared.ended.ShellFault.TheVariants.{Read}
use Rattle.om_shell.specs.Ends.{RunsToEnd, BreaksOffRun, WritesScript}
use Rattle.om_shell.specs.Lines.{parts_of, source_in, commands_in, kept}
use Rattle.om_shell.specs.Progress.{Moment, moment_of, Advance, BreaksOff}
use Rattle.om_shell.specs.Script.{book_of, source_of, script_by, transcript_of}
use Rattle.om_shell.specs.Serving.{due_for, Serves, BreaksOffServing, ServesAlone, ServesAlonePart, BreaksOffAlone}
use Rattle.om_shell.specs.Source.{ReadsMark, ReadsToEnd, ReadsNoMark}
use Rattle.om_shell.specs.Transcript.{Transcript}
use Rattle.om_frontend.specs.Verdict.{IsVerdict}
use Rattle.om_shell.proofs.Advances.{Done_then, Breaks_then}

-- reading a source up to the end of the mark's line
abbrev pub Marked_advance : (ra rb w : Option (List ℕ)) (source rest : List ℕ) (workers : ℕ)
    (verdict : Result Raw SourceFault) (runs : List FreeRun) → ReadsMark ra rb source rest
    → Advance (moment_of ra w []) (moment_of rb w rest)
    (script_by verdict workers runs None) (due_for verdict workers runs source)
Marked_advance ra rb w source rest workers verdict runs read = record {
  taken = read.taken;
  handled = read.ends.handled;
  text = [];
  bytes = read.ends.bytes;
  whole = read.ends.whole;
  consumes = read.consumes;
  appends = Appends-nil w;
  is = λ future. ap (λ l. transcript_of verdict workers runs l
      (commands_in (parts_of (read.ends.handled ++ future)))) (read.ends.source_is future)
      ∙ ap (λ l. transcript_of verdict workers runs source l) (read.ends.commands_are future);
}

-- whatever follows the mark's line, the source stays
marked_source : (ra rb : Option (List ℕ)) (source rest more : List ℕ) (read : ReadsMark ra rb source rest)
    → kept (source_in (parts_of (read.taken ++ more))) ≡ source
marked_source ra rb source rest more read =
    ap (λ l. kept (source_in (parts_of l))) (ap (λ l. l ++ more) read.ends.bytes
    ∙ append_assoc read.ends.handled rest more) ∙ read.ends.source_is (rest ++ more)

pub Runs_marked : (ra rb w : Option (List ℕ)) (end : Moment) (source rest : List ℕ)
    (workers status : ℕ) (book : Option BookView) → ReadsMark ra rb source rest
    → Serves (moment_of rb w rest) end workers source status book
    → RunsToEnd (moment_of ra w []) end workers None status book
Runs_marked ra rb w end source rest workers status book read q =
    let verdict = q.verdict in
    let runs = q.runs in
    let served = q.with_book in
    let done = Done_then (moment_of ra w []) (moment_of rb w rest) end
    (script_by verdict workers runs None) (due_for verdict workers runs source) served.view
    (Marked_advance ra rb w source rest workers verdict runs read) served.done in
    let same = marked_source ra rb source rest q.with_book.done.taken read in
    record {
      taken = read.taken ++ q.with_book.done.taken;
      verdict = verdict;
      judged = subst (λ l. IsVerdict l verdict) (sym same) q.judged;
      runs = runs;
      consumes = done.consumes;
      appends = done.appends;
      book_is = served.book_is ∙ ap book_of done.left;
      status_is = q.status_is;
      stops = elim done.stops [
        | inl nothing_left ↦ inl nothing_left
        | inr settled ↦ inr (record {
          source = λ future. ap (λ l. kept (source_in (parts_of l)))
              (append_assoc read.taken q.with_book.done.taken future)
              ∙ marked_source ra rb source rest (q.with_book.done.taken ++ future) read ∙ sym same;
          script = settled;
        })
      ];
    }

pub Runs_unmarked : (before after : Moment) (source : List ℕ) (workers status : ℕ)
    (book : Option BookView) → ReadsToEnd before.left after.left source
    → ServesAlone before.held after.held workers source status book
    → RunsToEnd before after workers None status book
Runs_unmarked before after source workers status book read q =
    let verdict = q.verdict in
    let runs : List FreeRun = [] in
    let all : script_by verdict workers runs None read.taken ≡ transcript_of verdict workers runs source [] =
    ap (λ l. transcript_of verdict workers runs l (commands_in (parts_of read.taken))) read.source_is
    ∙ ap (λ l. transcript_of verdict workers runs source l) read.commands_are in
    record {
      taken = read.taken;
      verdict = verdict;
      judged = subst (λ l. IsVerdict l verdict) (sym read.source_is) q.judged;
      runs = runs;
      consumes = read.consumes;
      appends = subst (λ (t : Transcript Debugger). Appends before.held after.held t.text) (sym all) q.appends;
      book_is = q.book_is ∙ sym (ap (λ (t : Transcript Debugger). book_of t.view) all);
      status_is = q.status_is;
      stops = inl read.at_end;
    }

pub Runs_given : (left held : Option (List ℕ)) (after : Moment) (source : List ℕ) (workers status : ℕ)
    (book : Option BookView) → Serves (moment_of left held []) after workers source status book
    → RunsToEnd (moment_of left held []) after workers (Some source) status book
Runs_given left held after source workers status book q = record {
  taken = q.with_book.done.taken;
  verdict = q.verdict;
  judged = q.judged;
  runs = q.runs;
  consumes = q.with_book.done.consumes;
  appends = q.with_book.done.appends;
  book_is = q.with_book.book_is ∙ ap book_of q.with_book.done.left;
  status_is = q.status_is;
  stops = elim q.with_book.done.stops [
    | inl end ↦ inl end
    | inr settled ↦ inr
        (record { source = λ future. refl; script = settled })
  ];
}

-- nothing was written, and it was no read that failed
unwritten : (before after : Moment) (taken : List ℕ) (workers : ℕ) (given : Option (List ℕ)) (fault : ShellFault)
    → Consumes before.left after.left taken → Appends before.held after.held [] → fault ≢ Read
    → BreaksOffRun before after workers given fault
unwritten before after taken workers given fault read wrote other = record {
  taken = taken;
  text = [];
  consumes = read;
  appends = wrote;
  begins = inl refl;
  answered = λ is_read. absurd (other is_read);
}

pub Breaks_reading : (ra rb w : Option (List ℕ)) (workers : ℕ) (fault : ShellFault) → ReadsNoMark ra rb fault
    → BreaksOffRun (moment_of ra w []) (moment_of rb w []) workers None fault
Breaks_reading ra rb w workers fault p = record {
  taken = p.taken;
  text = [];
  consumes = p.consumes;
  appends = Appends-nil w;
  begins = inl refl;
  answered = λ is_read. inl (p.unmarked is_read, refl);
}

-- a part of a script that has a verdict
begun : (left held : Option (List ℕ)) (after : Moment) (workers : ℕ) (given : Option (List ℕ)) (fault : ShellFault)
    (verdict : Result Raw SourceFault) (runs : List FreeRun)
    → (part : BreaksOff (moment_of left held []) after (script_by verdict workers runs given) fault)
    → IsVerdict (source_of given part.taken) verdict → BreaksOffRun (moment_of left held []) after workers given fault
begun left held after workers given fault verdict runs part judged = record {
  taken = part.taken;
  text = part.text;
  consumes = part.consumes;
  appends = part.appends;
  begins = inr (record { verdict = verdict; judged = judged; runs = runs; begins = part.begins });
  answered = λ is_read. inr (record {
    verdict = verdict;
    judged = judged;
    runs = runs;
    answers = part.answered
        is_read;
  });
}

pub Breaks_marked : (ra rb w : Option (List ℕ)) (end : Moment) (source rest : List ℕ) (workers : ℕ)
    (fault : ShellFault) → ReadsMark ra rb source rest
    → BreaksOffServing (moment_of rb w rest) end workers source fault
    → BreaksOffRun (moment_of ra w []) end workers None fault
Breaks_marked ra rb w end source rest workers fault read (inl q) =
    unwritten (moment_of ra w []) end (read.taken ++ []) workers None fault
    (Consumes-trans _ _ _ _ _ read.consumes q.consumes) q.appends q.no_read
Breaks_marked ra rb w end source rest workers fault read (inr q) =
    begun ra w end workers None fault q.verdict q.runs
    (Breaks_then (moment_of ra w []) (moment_of rb w rest) end
    (script_by q.verdict workers q.runs None) (due_for q.verdict workers q.runs source) fault
    (Marked_advance ra rb w source rest workers q.verdict q.runs read) q.part)
    (subst (λ l. IsVerdict l q.verdict) (sym (marked_source ra rb source rest q.part.taken read)) q.judged)

pub Breaks_given : (left held : Option (List ℕ)) (after : Moment) (source : List ℕ) (workers : ℕ)
    (fault : ShellFault) → BreaksOffServing (moment_of left held []) after workers source fault
    → BreaksOffRun (moment_of left held []) after workers (Some source) fault
Breaks_given left held after source workers fault (inl q) = unwritten (moment_of left held []) after [] workers
    (Some source) fault q.consumes q.appends q.no_read
Breaks_given left held after source workers fault (inr q) = begun left held after workers (Some source) fault q.verdict
    q.runs q.part q.judged

alone : (before after : Moment) (source : List ℕ) (workers : ℕ) (fault : ShellFault)
    → ReadsToEnd before.left after.left source → fault ≢ Read
    → Appends before.held after.held [] ⊎ ServesAlonePart before.held after.held workers source
    → BreaksOffRun before after workers None fault
alone before after source workers fault read other (inl wrote) = unwritten before after read.taken workers
    None fault read.consumes wrote other
alone before after source workers fault read other (inr q) =
    let all : script_by q.verdict workers [] None read.taken ≡ transcript_of q.verdict workers [] source [] =
    ap (λ l. transcript_of q.verdict workers [] l (commands_in (parts_of read.taken))) read.source_is
    ∙ ap (λ l. transcript_of q.verdict workers [] source l) read.commands_are in
    record {
      taken = read.taken;
      text = q.part.sent;
      consumes = read.consumes;
      appends = q.part.appends;
      begins = inr (record {
        verdict = q.verdict;
        judged = subst (λ l. IsVerdict l q.verdict) (sym read.source_is) q.judged;
        runs = [];
        begins = record {
          rest = q.part.begins.rest;
          is = ap (λ (t : Transcript Debugger). t.text) all
              ∙ q.part.begins.is;
        };
      });
      answered = λ is_read. absurd (other is_read);
    }

pub Breaks_unmarked : (before after : Moment) (source : List ℕ) (workers : ℕ) (fault : ShellFault)
    → ReadsToEnd before.left after.left source → BreaksOffAlone before.held after.held workers source fault
    → BreaksOffRun before after workers None fault
Breaks_unmarked before after source workers fault read q = alone before after source workers
    fault read q.no_read q.part

whole_of : (wa wb : Option (List ℕ)) (workers : ℕ) (given : Option (List ℕ)) (input taken rest : List ℕ)
    (verdict : Result Raw SourceFault) (runs : List FreeRun) → input ≡ taken ++ rest
    → IsVerdict (source_of given taken) verdict
    → Appends wa wb (script_by verdict workers runs given taken).text → source_of given (taken ++ rest)
    ≡ source_of given taken → script_by verdict workers runs given (taken ++ rest) ≡ script_by verdict workers
    runs given taken
    → WritesScript wa wb workers given input
whole_of wa wb workers given input taken rest verdict runs e judged wrote same_source same_script = record {
  script = script_by verdict workers runs given taken;
  is_script = record {
    verdict = verdict;
    judged = subst (λ l. IsVerdict l verdict) (sym (ap (source_of given) e ∙ same_source)) judged;
    runs = runs;
    is = sym (ap (script_by verdict workers runs given) e ∙ same_script);
  };
  appends = wrote;
}

-- what was written is the script of all that the reader had
pub Runs_whole : (ra rb wa wb : Option (List ℕ)) (workers : ℕ) (given : Option (List ℕ)) (status : ℕ)
    (book : Option BookView) → RunsToEnd (moment_of ra wa []) (moment_of rb wb []) workers given status book
    → IfSome ra (λ input. WritesScript wa wb workers given input)
Runs_whole None rb wa wb workers given status book p = tt
Runs_whole (Some input) None wa wb workers given status book p = absurd p.consumes
Runs_whole (Some input) (Some rest) wa wb workers given status book p =
    elim p.stops [
      | inl end ↦ whole_of wa wb workers given input p.taken rest p.verdict p.runs p.consumes p.judged p.appends
          (ap (λ l. source_of given (p.taken ++ l)) end ∙ ap (source_of given) (append-nil p.taken))
          (ap (λ l. script_by p.verdict workers p.runs given (p.taken ++ l)) end
          ∙ ap (script_by p.verdict workers p.runs given) (append-nil p.taken))
      | inr settled ↦ whole_of wa wb workers given input p.taken rest p.verdict p.runs p.consumes p.judged p.appends
          (settled.source rest) (settled.script rest)
    ]

pub IfErr_weaker : {T E : Type 0} (r : Result T E) (P Q : E → Type 0) → ((e : E) → P e → Q e) → IfErr r P → IfErr r Q
IfErr_weaker (Ok x) P Q f p = tt
IfErr_weaker (Err e) P Q f p = f e p
