-- What each command leaves, over every run.
use Rattle.std.proofs.Common.{◌≡◌, refl, sym, ◌∙◌, ap, subst, Option, None, Some, List, [], ◌∷◌, ◌++◌, ℕ, ◌+◌, Bool, false}
use Rattle.std.specs.Prelude.{map, All}
use Rattle.std.proofs.lemmas.List.{map-append}
use Rattle.std.proofs.lemmas.Simd.{map-map}
use Rattle.om_code.specs.declared.frame.Fault.{Fault}
use Rattle.om_state.specs.declared.step.Outcome.{Outcome}
use Rattle.om_state.specs.declared.step.Outcome.TheVariants as outcome
use Rattle.om_state.specs.declared.step.Label.{Label}
use Rattle.om_state.specs.declared.step.Step.{Step}
use Rattle.om_state.specs.declared.step.Entry.{Entry}
use Rattle.om_state.specs.State.{State}
use Rattle.om_state.specs.Rules.{Rules, step_at, next_state}
use Rattle.om_undo_history.specs.declared.reply.StepReply.TheVariants as step_reply
use Rattle.om_undo_history.specs.declared.reply.UndoReply.{UndoReply}
use Rattle.om_undo_history.specs.declared.reply.UndoReply.TheVariants.{Undone, Conflict, Nothing}
use Rattle.om_undo_history.specs.declared.records.UndoRecord.{UndoRecord}
use Rattle.om_undo_history.specs.Laws.{steps_from, steps_then}
use Rattle.om_undo_history.specs.Records.{entries_of, transition_of, transitions_of, ReplaysTo, is_undone}
use Rattle.om_undo_history.specs.Runs.{History, Place, no_history, label_of, state_of_entries, entry_for, reply_for}
use Rattle.om_undo_history.specs.Runs.{history_with, reply_to_step, after_step, last_place, history_without, reply_to_undo}
use Rattle.om_undo_history.specs.Runs.{after_undo}
use Rattle.om_undo_history.specs.Cones.{Transition, transitions}
use Rattle.om_undo_history.specs.Undos.{IsLast, IsFree}
use Rattle.om_undo_history.specs.Commands.{run}
use Rattle.om_undo_history.specs.Leaves.{is_done, and_step, lines_of, Leaves, EachLeaves}
use Rattle.om_undo_history.proofs.Logs.{NoneConflicts}
use Rattle.om_undo_history.proofs.Undos.{history_of, history_without-refused, Taking, taking}
use Rattle.om_undo_history.proofs.Rolls.{transitions-is}
use Rattle.om_undo_history.proofs.Exactly.{IsApartFrom, PlacedAt, placed, from_free}
use Rattle.om_undo_history.proofs.Remaining.{kept-is, run-has}

-- steps

not_made_by : (h : History) (e : Entry) (serial line : ℕ) (o : Outcome) → is_done (reply_for serial line o) ≡ false
    → history_with h e o ≡ h
not_made_by h e serial line (outcome.Updates us) none = cc
not_made_by h e serial line (outcome.Blocked b) none = refl
not_made_by h e serial line outcome.Ended none = refl

made_by : (h : History) (l : Label) (d : Step) (o : Outcome) (serial line : ℕ) (fault : Option Fault)
    → reply_for (h.made + 1) d.line o ≡ step_reply.Done serial line fault
    → (serial ≡ h.made + 1) × (history_with h (entry_for h.made l d) o ≡ and_step h l serial line)
made_by h l d (outcome.Updates us) serial line fault is =
    let s : h.made + 1 ≡ serial = cc in
    let n : d.line ≡ line = cc in
    (sym s, (λ i. and_step h l (s i) (n i)))
made_by h l d (outcome.Blocked b) serial line fault is = cc
made_by h l d outcome.Ended serial line fault is = cc

-- undos that are not done

stays_without : (h : History) (o : Option Place) (reply : UndoReply) → is_undone reply ≡ false
    → history_without h o reply ≡ h
stays_without h None reply none = refl
stays_without h (Some p) reply none = history_without-refused h p reply none

made_without : (h : History) (o : Option Place) (reply : UndoReply) → (history_without h o reply).made ≡ h.made
made_without h None reply = refl
made_without h (Some p) (Undone serial line) = refl
made_without h (Some p) (Conflict serial worker q) = refl
made_without h (Some p) Nothing = refl

-- an undo that is done

record Left (r : Rules) (h : History) (w : ℕ) (before later : List Transition) : Type 0 where
  is_left : transitions r (after_undo r h w).entries ≡ before ++ later
  entries_are : (after_undo r h w).entries ≡ map (λ (t : Transition). t.entry) (before ++ later)

left_by : (r : Rules) (before : List UndoRecord) (k : UndoRecord) (later : List UndoRecord) (made : ℕ)
    → Taking r before k later made
    → Left r (history_of (before ++ k ∷ later) made) k.entry.worker (transitions_of before) (transitions_of later)
left_by r before k later made x =
    let both : transitions_of (before ++ later) ≡ transitions_of before ++ transitions_of later =
    map-append transition_of before later in
    record {
      is_left = ap (λ (y : History). transitions r y.entries) x.after
          ∙ transitions-is r (before ++ later) x.now x.replays
          ∙ both;
      entries_are = ap (λ (y : History). y.entries) x.after
          ∙ sym (map-map (λ (t : Transition). t.entry) transition_of (before ++ later))
          ∙ ap (map (λ (t : Transition). t.entry)) both;
    }

left : (r : Rules) (ks : List UndoRecord) (made : ℕ) (now : State) (w : ℕ) (before : List Transition)
    (e : Transition) (later : List Transition) → ReplaysTo r r.start ks now
    → IsLast w (transitions_of ks) before e later → IsFree e later → Left r (history_of ks made) w before later
left r ks made now w before e later h last free =
    let at : PlacedAt ks before e later = placed ks before e later last.place in
    let none : NoneConflicts at.here.footprint at.rest =
    from_free at.here.footprint at.rest
    (subst (λ (t : Transition). All (IsApartFrom t.footprint) (transitions_of at.rest)) (sym at.here_is)
    (subst (IsFree e) (sym at.later_is) free)) in
    let x : Taking r at.earlier at.here at.rest made =
    taking r at.earlier at.here at.rest made now (subst (λ xs. ReplaysTo r r.start xs now) at.split h) none in
    subst (λ xs. Left r (history_of xs made) w before later) (sym at.split)
    (subst (λ v. Left r (history_of (at.earlier ++ at.here ∷ at.rest) made) v before later)
    (ap (λ (t : Transition). t.entry.worker) at.here_is ∙ last.own)
    (subst (λ ts. Left r (history_of (at.earlier ++ at.here ∷ at.rest) made) at.here.entry.worker ts later) at.before_is
    (subst (λ ts. Left r (history_of (at.earlier ++ at.here ∷ at.rest) made) at.here.entry.worker
    (transitions_of at.earlier) ts) at.later_is (left_by r at.earlier at.here at.rest made x))))

-- lines

lines_from : (r : Rules) (s : State) (ks : List UndoRecord) (now : State) → ReplaysTo r s ks now
    → map (λ (d : Step). d.line) (steps_from r s (map label_of (entries_of ks)))
    ≡ map (λ (e : Entry). e.line) (entries_of ks)
lines_from r s [] now h = refl
lines_from r s (k ∷ ks) now h =
    let t : State = h.0 in
    ap (λ o. (step_at r s (label_of k.entry)).line ∷ map (λ (d : Step). d.line)
    (steps_then o (λ u. steps_from r u (map label_of (entries_of ks))))) h.1
    ∙ ap (λ n. n ∷ map (λ (d : Step). d.line) (steps_from r t (map label_of (entries_of ks)))) (sym h.2.line)
    ∙ ap (λ ns. k.entry.line ∷ ns) (lines_from r t ks now h.3)

-- all of it

leaves : (r : Rules) (ks : List UndoRecord) (made : ℕ) (now : State) → ReplaysTo r r.start ks now
    → Leaves r (history_of ks made)
leaves r ks made now replays =
    let h : History = history_of ks made in
    let s : State = state_of_entries r h.entries in
    record {
      not_made = λ l none. not_made_by h (entry_for made l (step_at r s l)) (made + 1) (step_at r s l).line
          (step_at r s l).outcome none;
      made = λ l serial line fault is. made_by h l (step_at r s l) (step_at r s l).outcome serial line fault is;
      not_undone = λ w none. stays_without h (last_place w h.entries) (reply_to_undo r h w) none;
      undone = λ w before e later last free.
          let x : Left r h w before later = left r ks made now w before e later replays
          (subst (λ ts. IsLast w ts before e later) (transitions-is r ks now replays) last) free in
          (x.is_left, x.entries_are);
      serials_stay = λ w. made_without h (last_place w h.entries) (reply_to_undo r h w);
      lines = lines_from r r.start ks now replays;
    }

pub each_leaves : EachLeaves
each_leaves = λ r cs.
    let h : History = run r no_history cs in
    let x = run-has r cs in
    subst (Leaves r) (kept-is r h x) (leaves r x.records h.made x.now x.replays)
