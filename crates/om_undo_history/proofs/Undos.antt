-- An undo, by the undo records: what it takes out, and that it is refused elsewhere.
use Rattle.std.proofs.Common.{◌≡◌, ◌≢◌, refl, sym, ◌∙◌, ap, subst, Bool, true, false, Option, None, Some, List, [], ◌∷◌}
use Rattle.std.proofs.Common.{◌++◌, ℕ, ◌==◌, ◌⊎◌, inl, inr, eq-eqb}
use Rattle.std.specs.Prelude.{unwrap_or}
use Rattle.std.proofs.lemmas.Bool.{true≢false, cases_eq}
use Rattle.std.proofs.lemmas.List.{map-append}
use Rattle.om_foot.specs.declared.object.Obj.{Obj}
use Rattle.om_foot.specs.declared.object.Obj.TheVariants as obj
use Rattle.om_foot.specs.declared.footprint.Access.{Access}
use Rattle.om_foot.specs.Footprint.{conflict_of}
use Rattle.om_foot.specs.Apart.{AllApart, all_apart}
use Rattle.om_state.specs.declared.step.Label.{Label}
use Rattle.om_state.specs.declared.step.Entry.{Entry}
use Rattle.om_state.specs.State.{State, taken_back}
use Rattle.om_state.specs.Rules.{Rules, control_access, step_at}
use Rattle.om_undo_history.specs.Laws.{Apart}
use Rattle.om_undo_history.specs.Runs.{History, label_of, Place, last_or_first, last_place, state_after_step}
use Rattle.om_undo_history.specs.Runs.{first_conflict, reply_against, reply_at, reply_to_undo, history_without, after_undo}
use Rattle.om_undo_history.specs.declared.reply.UndoReply.{UndoReply}
use Rattle.om_undo_history.specs.declared.reply.UndoReply.TheVariants.{Undone, Conflict, Nothing}
use Rattle.om_undo_history.specs.declared.records.UndoRecord.{UndoRecord}
use Rattle.om_undo_history.specs.Records.{conflict_or, entries_of, ReplaysTo, first_kept_conflict, is_undone}
use Rattle.om_undo_history.proofs.Logs.{ReplaysTo-now, NoneConflicts, Split, ReplaysTo-removed, first_kept_conflict-is}
use Rattle.om_undo_history.proofs.Places.{NoneOwn, last_place-none_own}

abbrev pub history_of : List UndoRecord → ℕ → History
history_of ks made = record { entries = entries_of ks; made = made }

pub history_without-done : (h : History) (p : Place) (reply : UndoReply) → is_undone reply ≡ true
    → history_without h (Some p) reply ≡ record { entries = p.earlier ++ p.later; made = h.made }
history_without-done h p (Undone serial line) e = refl
history_without-done h p Nothing e = cc
history_without-done h p (Conflict serial worker q) e = cc

pub history_without-refused : (h : History) (p : Place) (reply : UndoReply) → is_undone reply ≡ false
    → history_without h (Some p) reply ≡ h
history_without-refused h p (Undone serial line) e = cc
history_without-refused h p Nothing e = refl
history_without-refused h p (Conflict serial worker q) e = refl

hit_none : (e : Entry) (o : Option Obj) (reply : UndoReply) → is_undone (conflict_or e o reply) ≡ true
    → (o ≡ None) × (is_undone reply ≡ true)
hit_none e None reply h = (refl, h)
hit_none e (Some q) reply h = cc

pub none_conflicts : (footprint : List Access) (later : List UndoRecord) (serial line : ℕ)
    → is_undone (first_kept_conflict footprint later (Undone serial line)) ≡ true → NoneConflicts footprint later
none_conflicts footprint [] serial line h = tt
none_conflicts footprint (x ∷ xs) serial line h =
    let none = hit_none x.entry (conflict_of footprint x.footprint)
    (first_kept_conflict footprint xs (Undone serial line)) h in
    (none.0, none_conflicts footprint xs serial line none.1)

pub none_answers : (footprint : List Access) (later : List UndoRecord) (reply : UndoReply)
    → NoneConflicts footprint later → first_kept_conflict footprint later reply ≡ reply
none_answers footprint [] reply h = refl
none_answers footprint (k ∷ ks) reply h = ap (λ o. conflict_or k.entry o (first_kept_conflict footprint ks reply)) h.0
    ∙ none_answers footprint ks reply h.1

-- the replay, split at a record
pub split_between : (before : List UndoRecord) (k : UndoRecord) (later : List UndoRecord) (r : Rules) (s now : State)
    → ReplaysTo r s (before ++ k ∷ later) now → Split r s before k later now
split_between [] k later r s now h = record { at = s; after = h.0; to = refl; taken = h.1; right = h.2; rest = h.3 }
split_between (x ∷ xs) k later r s now h =
    let ih : Split r h.0 xs k later now = split_between xs k later r h.0 now h.3 in
    record {
      at = ih.at;
      after = ih.after;
      to = (h.0, h.1, h.2, ih.to);
      taken = ih.taken;
      right = ih.right;
      rest = ih.rest;
    }

abbrev pub place_between : List UndoRecord → UndoRecord → List UndoRecord → Place
place_between before k later = record { earlier = entries_of before; entry = k.entry; later = entries_of later }

-- what an undo at a place replies, by the records
pub reply_at-split : (r : Rules) (before : List UndoRecord) (k : UndoRecord) (later : List UndoRecord) (now : State)
    → Split r r.start before k later now
    → reply_at r (Some (place_between before k later)) ≡ first_kept_conflict k.footprint later
    (Undone k.entry.serial k.entry.line)
reply_at-split r before k later now parts =
    let l : Label = label_of k.entry in
    let reply : List Access → State → UndoReply = λ ns s.
    reply_against k.entry (first_conflict r ns s (entries_of later)) in
    ap (λ s. reply (step_at r s l).footprint (state_after_step r s l)) (ReplaysTo-now r before parts.at parts.to)
    ∙ ap (reply (step_at r parts.at l).footprint) (ap (λ o. unwrap_or o parts.at) parts.taken)
    ∙ ap (λ ns. reply ns parts.after) (sym parts.right.footprint)
    ∙ first_kept_conflict-is r k.footprint parts.after later now k.entry parts.rest

-- two steps of one worker conflict, at its control
apart-workers : (l m : Label) (fs gs : List Access) → Apart (control_access l ∷ fs) (control_access m ∷ gs)
    → m.worker ≢ l.worker
apart-workers l m fs gs h same =
    let all : AllApart (control_access l ∷ fs) (control_access m ∷ gs) = all_apart (control_access l ∷ fs)
    (control_access m ∷ gs) h in
    true≢false (all.0.0 (ap obj.Control (sym same)))

control_first : (r : Rules) (s : State) (l : Label)
    → (step_at r s l).footprint ≡ control_access l ∷ r.further l (s (obj.Control l.worker))
unfolding step_at
control_first r s l = refl

-- so where none of the later entries conflicts with a step, none is its worker's
pub none_own : (r : Rules) (s t : State) (l : Label) (footprint : List Access) (later : List UndoRecord) (now : State)
    → footprint ≡ (step_at r s l).footprint → ReplaysTo r t later now → NoneConflicts footprint later
    → NoneOwn l.worker (entries_of later)
none_own r s t l footprint [] now is h none = tt
none_own r s t l footprint (k ∷ ks) now is h none =
    let m : Label = label_of k.entry in
    let first : footprint ≡ control_access l ∷ r.further l (s (obj.Control l.worker)) = is ∙ control_first r s l in
    let second : k.footprint ≡ control_access m ∷ r.further m (t (obj.Control m.worker)) = h.2.footprint
    ∙ control_first r t m in (
      apart-workers l m (r.further l (s (obj.Control l.worker))) (r.further m (t (obj.Control m.worker)))
          (subst (λ x. Apart x (control_access m ∷ r.further m (t (obj.Control m.worker)))) first
          (subst (λ x. Apart footprint x) second none.0)),
      none_own r s h.0 l footprint ks now is h.3 none.1,
    )

last_place-between : (w : ℕ) (es : List Entry) (e : Entry) (fs : List Entry) → e.worker ≡ w → NoneOwn w fs
    → last_place w (es ++ e ∷ fs) ≡ Some (record { earlier = es; entry = e; later = fs })
last_place-between w [] e fs own none = ap (λ o. last_or_first o (e.worker == w) e fs) (last_place-none_own w fs none)
    ∙ ap (λ b. last_or_first None b e fs) (eq-eqb e.worker w own)
last_place-between w (x ∷ xs) e fs own none = ap (λ o. last_or_first o (x.worker == w) x (xs ++ e ∷ fs))
    (last_place-between w xs e fs own none)

pub last_place-records : (w : ℕ) (before : List UndoRecord) (k : UndoRecord) (later : List UndoRecord)
    → k.entry.worker ≡ w → NoneOwn w (entries_of later)
    → last_place w (entries_of (before ++ k ∷ later)) ≡ Some (place_between before k later)
last_place-records w before k later own none =
    ap (last_place w) (map-append (λ (x : UndoRecord). x.entry) before (k ∷ later))
    ∙ last_place-between w (entries_of before) k.entry (entries_of later) own none

-- an undo takes a record out with which no later one conflicts
pub record Taking (r : Rules) (before : List UndoRecord) (k : UndoRecord) (later : List UndoRecord)
    (made : ℕ) : Type 0 where
  pub reply : reply_to_undo r (history_of (before ++ k ∷ later) made) k.entry.worker
      ≡ Undone k.entry.serial k.entry.line
  pub after : after_undo r (history_of (before ++ k ∷ later) made) k.entry.worker ≡ history_of (before ++ later) made
  pub now : State
  pub replays : ReplaysTo r r.start (before ++ later) now

pub taking : (r : Rules) (before : List UndoRecord) (k : UndoRecord) (later : List UndoRecord) (made : ℕ)
    (now : State) → ReplaysTo r r.start (before ++ k ∷ later) now → NoneConflicts k.footprint later
    → Taking r before k later made
taking r before k later made now h none =
    let w : ℕ = k.entry.worker in
    let all : History = history_of (before ++ k ∷ later) made in
    let parts : Split r r.start before k later now = split_between before k later r r.start now h in
    let at : last_place w all.entries ≡ Some (place_between before k later) = last_place-records w before k later refl
    (none_own r parts.at parts.after (label_of k.entry) k.footprint later now parts.right.footprint parts.rest
    none) in
    let reply : reply_to_undo r all w ≡ Undone k.entry.serial k.entry.line = ap (reply_at r) at
    ∙ reply_at-split r before k later now parts
    ∙ none_answers k.footprint later (Undone k.entry.serial k.entry.line) none in
    record {
      reply = reply;
      after =
          ap (λ o. history_without all o (reply_to_undo r all w)) at
          ∙ ap (λ x. history_without all (Some (place_between before k later)) x) reply
          ∙ (λ j. record { entries = sym (map-append (λ (x : UndoRecord). x.entry) before later) j; made = made });
      now = taken_back k.footprint k.back now;
      replays = ReplaysTo-removed r r.start before k later now parts none;
    }

-- the last record of a worker
pub record LastOf (w : ℕ) (ks : List UndoRecord) : Type 0 where
  pub before : List UndoRecord
  pub last : UndoRecord
  pub later : List UndoRecord
  pub split : ks ≡ before ++ last ∷ later
  pub own : last.entry.worker ≡ w
  pub none : NoneOwn w (entries_of later)

found : (w : ℕ) (k : UndoRecord) (ks : List UndoRecord) → NoneOwn w (entries_of ks) ⊎ LastOf w ks
    → (k.entry.worker ≡ w) ⊎ (k.entry.worker ≡ w → ⊥) → NoneOwn w (entries_of (k ∷ ks)) ⊎ LastOf w (k ∷ ks)
found w k ks (inr x) own = inr
    (record {
      before = k ∷ x.before;
      last = x.last;
      later = x.later;
      split = ap (λ xs. k ∷ xs) x.split;
      own = x.own;
      none = x.none;
    })
found w k ks (inl none) (inl own) =
    inr (record { before = []; last = k; later = ks; split = refl; own = own; none = none })
found w k ks (inl none) (inr other) = inl (other, none)

pub find_last : (w : ℕ) (ks : List UndoRecord) → NoneOwn w (entries_of ks) ⊎ LastOf w ks
find_last w [] = inl tt
find_last w (k ∷ ks) = found w k ks (find_last w ks) (cases_eq k.entry.worker w)

-- an undo leaves the history, or takes a record out with which no later one conflicts
pub record TakesOne (r : Rules) (ks : List UndoRecord) (made w : ℕ) : Type 0 where
  pub before : List UndoRecord
  pub taken : UndoRecord
  pub later : List UndoRecord
  pub split : ks ≡ before ++ taken ∷ later
  pub none : NoneConflicts taken.footprint later
  pub after : after_undo r (history_of ks made) w ≡ history_of (before ++ later) made
  pub now : State
  pub replays : ReplaysTo r r.start (before ++ later) now

abbrev UndoneOr : Rules → List UndoRecord → ℕ → ℕ → Type 0
UndoneOr r ks made w = (after_undo r (history_of ks made) w ≡ history_of ks made) ⊎ TakesOne r ks made w

by_done : (r : Rules) (before : List UndoRecord) (k : UndoRecord) (later : List UndoRecord) (made : ℕ) (now : State)
    (w : ℕ) (b : Bool) → ReplaysTo r r.start (before ++ k ∷ later) now → k.entry.worker ≡ w
    → NoneOwn w (entries_of later)
    → is_undone (first_kept_conflict k.footprint later (Undone k.entry.serial k.entry.line)) ≡ b
    → UndoneOr r (before ++ k ∷ later) made w
by_done r before k later made now w true h own none done =
    let apart : NoneConflicts k.footprint later = none_conflicts k.footprint later k.entry.serial k.entry.line done in
    let x : Taking r before k later made = taking r before k later made now h apart in
    inr
    (record {
      before = before;
      taken = k;
      later = later;
      split = refl;
      none = apart;
      after = subst (λ v. after_undo r (history_of (before ++ k ∷ later) made) v ≡ history_of
          (before ++ later) made) own x.after;
      now = x.now;
      replays = x.replays;
    })
by_done r before k later made now w false h own none done =
    let all : History = history_of (before ++ k ∷ later) made in
    let at : last_place w all.entries ≡ Some (place_between before k later) =
    last_place-records w before k later own none in
    let reply : reply_to_undo r all w ≡ first_kept_conflict k.footprint later (Undone k.entry.serial k.entry.line) =
    ap (reply_at r) at ∙ reply_at-split r before k later now (split_between before k later r r.start now h) in
    inl
    (ap (λ o. history_without all o (reply_to_undo r all w)) at
    ∙ ap (λ x. history_without all (Some (place_between before k later)) x) reply
    ∙ history_without-refused all (place_between before k later)
    (first_kept_conflict k.footprint later (Undone k.entry.serial k.entry.line)) done)

by_last : (r : Rules) (ks : List UndoRecord) (made : ℕ) (now : State) (w : ℕ) → ReplaysTo r r.start ks now
    → NoneOwn w (entries_of ks) ⊎ LastOf w ks → UndoneOr r ks made w
by_last r ks made now w h (inl none) =
    inl (ap (λ o. history_without (history_of ks made) o (reply_to_undo r (history_of ks made) w))
    (last_place-none_own w (entries_of ks) none))
by_last r ks made now w h (inr x) =
    subst (λ xs. UndoneOr r xs made w) (sym x.split)
    (by_done r x.before x.last x.later made now w
    (is_undone (first_kept_conflict x.last.footprint x.later (Undone x.last.entry.serial x.last.entry.line)))
    (subst (λ xs. ReplaysTo r r.start xs now) x.split h) x.own x.none refl)

pub undone_or : (r : Rules) (ks : List UndoRecord) (made : ℕ) (now : State) (w : ℕ) → ReplaysTo r r.start ks now
    → (after_undo r (history_of ks made) w ≡ history_of ks made) ⊎ TakesOne r ks made w
undone_or r ks made now w h = by_last r ks made now w h (find_last w ks)
