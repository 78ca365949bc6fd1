-- How steps of a run compose.
use Rattle.std.proofs.Common.{◌≡◌, ◌≢◌, ℕ, List, [], ◌∷◌, ◌++◌, Option, take, drop, refl, sym, ap, subst, ◌∙◌}
use Rattle.std.proofs.Common.{append_assoc, append-nil, inl, inr, take-append-drop}
use Rattle.std.specs.Io.KnownBytes.{Appends, Consumes, IsAtEnd}
use Rattle.std.proofs.KnownBytes.{Appends-nil, Appends-trans, Consumes-nil, Consumes-trans}
use Rattle.om_shell.specs.declared.ended.ShellFault.{ShellFault}
use Rattle.om_shell.specs.declared.ended.ShellFault.TheVariants.{Read}
use Rattle.om_shell.specs.Lines.{HasNoLineEnd}
use Rattle.om_shell.specs.Transcript.{Transcript, after_text}
use Rattle.om_shell.specs.Progress.{Moment, moment_of, IsBeginning, AreWholeLines, Advance}
use Rattle.om_shell.specs.Progress.{BreaksOff, IsDone}
use Rattle.om_shell.specs.Batch.{Answers}

pub AreWholeLines-append : (xs ys : List ℕ) → AreWholeLines xs → AreWholeLines ys → AreWholeLines (xs ++ ys)
AreWholeLines-append xs ys p (inl none) = subst AreWholeLines (sym (ap (λ l. xs ++ l) none ∙ append-nil xs)) p
AreWholeLines-append xs ys p (inr q) = inr (xs ++ q.0, ap (λ l. xs ++ l) q.1 ∙ sym (append_assoc xs q.0 (10 ∷ [])))

pub after_text-append : {M : Type 0} (xs ys : List ℕ) (t : Transcript M) → after_text (xs ++ ys) t
    ≡ after_text xs (after_text ys t)
after_text-append xs ys t = ap (λ text. record { text = text; view = t.view }) (append_assoc xs ys t.text)

after_text-nil : {M : Type 0} (xs : List ℕ) (m : Option M) → (after_text xs (record { text = []; view = m })).text ≡ xs
after_text-nil xs m = append-nil xs

pub Advance_none : {M : Type 0} (now : Moment) (due : List ℕ → Transcript M) → Advance now now due due
Advance_none now due = record {
  taken = [];
  handled = [];
  text = [];
  bytes = append-nil now.pending;
  whole = inl refl;
  consumes = Consumes-nil now.left;
  appends = Appends-nil now.held;
  is = λ future. refl;
}

pub Advance_trans : {M : Type 0} (a b c : Moment) (la lb lc : List ℕ → Transcript M) → Advance a b la lb
    → Advance b c lb lc → Advance a c la lc
Advance_trans a b c la lb lc p q = record {
  taken = p.taken ++ q.taken;
  handled = p.handled ++ q.handled;
  text = p.text ++ q.text;
  bytes = sym (append_assoc a.pending p.taken q.taken) ∙ ap (λ l. l ++ q.taken) p.bytes
      ∙ append_assoc p.handled b.pending q.taken ∙ ap (λ l. p.handled ++ l) q.bytes
      ∙ sym (append_assoc p.handled q.handled c.pending);
  whole = AreWholeLines-append p.handled q.handled p.whole q.whole;
  consumes = Consumes-trans _ _ _ _ _ p.consumes q.consumes;
  appends = Appends-trans _ _ _ _ _ p.appends q.appends;
  is = λ future. ap la (append_assoc p.handled q.handled future) ∙ p.is (q.handled ++ future)
      ∙ ap (λ l. after_text p.text l) (q.is future)
      ∙ sym (after_text-append p.text q.text (lc future));
}

-- a read
pub Advance_read : {M : Type 0} (now : Moment) (left : Option (List ℕ)) (pending bytes : List ℕ)
    (due : List ℕ → Transcript M) → Consumes now.left left bytes → pending ≡ now.pending ++ bytes
    → Advance now (moment_of left now.held pending) due due
Advance_read now left pending bytes due p e = record {
  taken = bytes;
  handled = [];
  text = [];
  bytes = sym e;
  whole = inl refl;
  consumes = p;
  appends = Appends-nil now.held;
  is = λ future. refl;
}

-- whole lines that are answered
pub Advance_answers : {M : Type 0} (now : Moment) (held : Option (List ℕ)) (pending : List ℕ) (used : ℕ)
    (la lb : List ℕ → Transcript M) → Answers now.held held now.pending used la lb → pending ≡ drop used now.pending
    → Advance now (moment_of now.left held pending) la lb
Advance_answers now held pending used la lb p e = record {
  taken = [];
  handled = take used now.pending;
  text = p.text;
  bytes = append-nil now.pending ∙ sym (take-append-drop used now.pending)
      ∙ ap (λ l. take used now.pending ++ l) (sym e);
  whole = p.whole;
  consumes = Consumes-nil now.left;
  appends = p.appends;
  is = p.is;
}

-- what was due at the first moment for all bytes, by what is due at the second one
pub due_further : {M : Type 0} (a b : Moment) (la lb : List ℕ → Transcript M) (bytes : List ℕ) (p : Advance a b la lb)
    → la (a.pending ++ (p.taken ++ bytes)) ≡ after_text p.text (lb (b.pending ++ bytes))
due_further a b la lb bytes p = ap la (sym (append_assoc a.pending p.taken bytes) ∙ ap (λ l. l ++ bytes) p.bytes
    ∙ append_assoc p.handled b.pending bytes) ∙ p.is (b.pending ++ bytes)

-- at the end of the input
pub Done_at_end : {M : Type 0} (a b : Moment) (held : Option (List ℕ)) (la lb : List ℕ → Transcript M)
    (last : Transcript M) (view : Option M)
    → Advance a b la lb → IsAtEnd b.left → lb b.pending ≡ last → Appends b.held held last.text → view ≡ last.view
    → IsDone a (moment_of b.left held []) la view
Done_at_end a b held la lb last view p end same wrote left =
    let all : la (a.pending ++ p.taken) ≡ after_text p.text last = ap la p.bytes ∙ p.is b.pending
    ∙ ap (after_text p.text) same in
    record {
      taken = p.taken;
      consumes = p.consumes;
      appends = subst (λ (t : Transcript _). Appends a.held held t.text) (sym all) (Appends-trans _ _ _ _ _ p.appends
          wrote);
      left = left ∙ sym (ap (λ (t : Transcript _). t.view) all);
      stops = inl end;
    }

-- where nothing more is due, whatever comes
pub Done_settled : {M : Type 0} (a b : Moment) (la : List ℕ → Transcript M) (view : Option M)
    → Advance a b la (λ _. record { text = []; view = view }) → IsDone a (moment_of b.left b.held []) la view
Done_settled a b la view p =
    let now : la (a.pending ++ p.taken) ≡ after_text p.text (record { text = []; view = view }) = ap la p.bytes
    ∙ p.is b.pending in
    record {
      taken = p.taken;
      consumes = p.consumes;
      appends = subst (Appends a.held b.held) (sym (ap (λ (t : Transcript _). t.text) now ∙ append-nil p.text))
          p.appends;
      left = sym (ap (λ (t : Transcript _). t.view) now);
      stops = inr (λ future. ap (λ l. la (l ++ future)) p.bytes ∙ ap la (append_assoc p.handled b.pending future)
          ∙ p.is (b.pending ++ future) ∙ sym now);
    }

-- after a fault that is no read's
pub Breaks_after : {M : Type 0} (a b c : Moment) (bytes text : List ℕ) (la lb : List ℕ → Transcript M)
    (fault : ShellFault)
    → Advance a b la lb → Consumes b.left c.left bytes → Appends b.held c.held text → IsBeginning text
    (lb (b.pending ++ bytes)).text → fault ≢ Read → BreaksOff a c la fault
Breaks_after a b c bytes text la lb fault p read wrote begins other = record {
  taken = p.taken ++ bytes;
  text = p.text ++ text;
  consumes = Consumes-trans _ _ _ _ _ p.consumes read;
  appends = Appends-trans _ _ _ _ _ p.appends wrote;
  begins = record {
    rest = begins.rest;
    is = ap (λ (t : Transcript _). t.text) (due_further a b la lb bytes p) ∙ ap (λ l. p.text ++ l) begins.is
        ∙ sym (append_assoc p.text text begins.rest);
  };
  answered = λ read. absurd (other read);
}

-- where a read fails behind whole lines
pub Breaks_at_read : {M : Type 0} (a b : Moment) (left : Option (List ℕ)) (bytes : List ℕ)
    (la lb : List ℕ → Transcript M) (fault : ShellFault)
    → Advance a b la lb → Consumes b.left left bytes → (fault ≡ Read → bytes ≡ []) → HasNoLineEnd b.pending
    → (lb []).text ≡ [] → BreaksOff a (moment_of left b.held []) la fault
Breaks_at_read a b left bytes la lb fault p read none unended nothing =
    let whole : (la p.handled).text ≡ p.text = ap (λ l. (la l).text) (sym (append-nil p.handled))
    ∙ ap (λ (t : Transcript _). t.text) (p.is []) ∙ ap (λ l. p.text ++ l) nothing ∙ append-nil p.text in
    record {
      taken = p.taken ++ bytes;
      text = p.text;
      consumes = Consumes-trans _ _ _ _ _ p.consumes read;
      appends = p.appends;
      begins = record {
        rest = (lb (b.pending ++ bytes)).text;
        is = ap (λ (t : Transcript _). t.text) (due_further a b la lb bytes p);
      };
      answered = λ is_read. record {
        whole = p.handled;
        rest = b.pending;
        is = ap (λ l. a.pending ++ (p.taken ++ l)) (none is_read) ∙ ap (λ l. a.pending ++ l) (append-nil p.taken)
            ∙ p.bytes;
        ended = p.whole;
        unended = unended;
        answered = sym whole;
      };
    }

-- nothing was read, and what was written is due whatever comes
pub Done_unread : {M : Type 0} (now : Moment) (held : Option (List ℕ)) (transcript : Transcript M)
    (due : List ℕ → Transcript M) → ((bytes : List ℕ) → due bytes ≡ transcript)
    → Appends now.held held transcript.text → IsDone now (moment_of now.left held []) due transcript.view
Done_unread now held transcript due same wrote = record {
  taken = [];
  consumes = Consumes-nil now.left;
  appends = subst (λ (t : Transcript _). Appends now.held held t.text) (sym (same (now.pending ++ []))) wrote;
  left = sym (ap (λ (t : Transcript _). t.view) (same (now.pending ++ [])));
  stops = inr (λ future. same (now.pending ++ [] ++ future) ∙ sym (same (now.pending ++ [])));
}

abbrev pub Done_then : {M : Type 0} (a b c : Moment) (la lb : List ℕ → Transcript M) (view : Option M)
    → Advance a b la lb → IsDone b c lb view → IsDone a c la view
Done_then a b c la lb view p q =
    let all : (future : List ℕ) → la ((a.pending ++ (p.taken ++ q.taken)) ++ future) ≡ after_text p.text
    (lb ((b.pending ++ q.taken) ++ future)) =
    λ future. ap la (ap (λ l. l ++ future) (sym (append_assoc a.pending p.taken q.taken)
    ∙ ap (λ l. l ++ q.taken) p.bytes ∙ append_assoc p.handled b.pending q.taken)
    ∙ append_assoc p.handled (b.pending ++ q.taken) future) ∙ p.is ((b.pending ++ q.taken) ++ future) in
    let now : la (a.pending ++ (p.taken ++ q.taken)) ≡ after_text p.text (lb (b.pending ++ q.taken)) =
    due_further a b la lb q.taken p in
    record {
      taken = p.taken ++ q.taken;
      consumes = Consumes-trans _ _ _ _ _ p.consumes q.consumes;
      appends = subst (λ (t : Transcript _). Appends a.held c.held t.text) (sym now) (Appends-trans _ _ _ _ _
          p.appends q.appends);
      left = q.left ∙ sym (ap (λ (t : Transcript _). t.view) now);
      stops = elim q.stops [
        | inl end ↦ inl end
        | inr same ↦ inr (λ future. all future
            ∙ ap (λ l. after_text p.text l) (same future) ∙ sym now)
      ];
    }

abbrev pub Breaks_then : {M : Type 0} (a b c : Moment) (la lb : List ℕ → Transcript M) (fault : ShellFault)
    → Advance a b la lb → BreaksOff b c lb fault → BreaksOff a c la fault
Breaks_then a b c la lb fault p q =
    let joined : a.pending ++ (p.taken ++ q.taken) ≡ p.handled ++ (b.pending ++ q.taken) =
    sym (append_assoc a.pending p.taken q.taken) ∙ ap (λ l. l ++ q.taken) p.bytes
    ∙ append_assoc p.handled b.pending q.taken in
    record {
      taken = p.taken ++ q.taken;
      text = p.text ++ q.text;
      consumes = Consumes-trans _ _ _ _ _ p.consumes q.consumes;
      appends = Appends-trans _ _ _ _ _ p.appends q.appends;
      begins = record {
        rest = q.begins.rest;
        is = ap (λ (t : Transcript _). t.text) (due_further a b la lb q.taken p)
            ∙ ap (λ l. p.text ++ l) q.begins.is ∙ sym (append_assoc p.text q.text q.begins.rest);
      };
      answered = λ read. let further = q.answered read in record {
        whole = p.handled ++ further.whole;
        rest = further.rest;
        is = joined ∙ ap (λ l. p.handled ++ l) further.is ∙ sym (append_assoc p.handled further.whole further.rest);
        ended = AreWholeLines-append p.handled further.whole p.whole further.ended;
        unended = further.unended;
        answered = ap (λ l. p.text ++ l) further.answered
            ∙ sym (ap (λ (t : Transcript _). t.text) (p.is further.whole));
      };
    }
