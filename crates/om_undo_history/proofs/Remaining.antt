-- After any run the entries are those of undo records that are right for a replay, and their serials rise.
use Rattle.std.proofs.Common.{◌≡◌, refl, sym, ◌∙◌, ap, subst, Some, List, [], ◌∷◌, ◌++◌, ℕ, ⊎_elim, arith}
use Rattle.std.specs.Prelude.{map}
use Rattle.std.proofs.lemmas.List.{map-append}
use Rattle.om_state.specs.declared.step.Outcome.{Outcome}
use Rattle.om_state.specs.declared.step.Outcome.TheVariants as outcome
use Rattle.om_state.specs.declared.step.Label.{Label}
use Rattle.om_state.specs.declared.step.Step.{Step}
use Rattle.om_state.specs.State.{State, updated}
use Rattle.om_state.specs.Rules.{Rules, step_at, state_after_outcome, next_state, replay}
use Rattle.om_undo_history.specs.Runs.{History, no_history, label_of, state_of_entries, entry_for, history_with, after_undo}
use Rattle.om_undo_history.specs.Cones.{after_roll}
use Rattle.om_undo_history.specs.Commands.{Command, ToStep, ToUndo, ToRoll, after_command, run, RemainingSteps, Rise}
use Rattle.om_undo_history.specs.declared.records.UndoRecord.{UndoRecord}
use Rattle.om_undo_history.specs.Records.{entries_of, back_of, IsRight, ReplaysTo}
use Rattle.om_undo_history.proofs.Logs.{ReplaysTo-now, ReplaysTo-push}
use Rattle.om_undo_history.specs.Replayed.{ReplaysTo-replay}
use Rattle.om_undo_history.proofs.Rising.{Rise-pushed, Rise-removed}
use Rattle.om_undo_history.proofs.Undos.{history_of, TakesOne, undone_or}
use Rattle.om_undo_history.proofs.Rolls.{rolls, rest_of, rest_of-rises, after_roll-is}

pub record Kept (r : Rules) (h : History) : Type 0 where
  pub records : List UndoRecord
  pub entries : entries_of records ≡ h.entries
  pub now : State
  pub replays : ReplaysTo r r.start records now
  pub rising : Rise 0 (entries_of records) h.made

pub kept-is : (r : Rules) (h : History) (x : Kept r h) → history_of x.records h.made ≡ h
kept-is r h x = λ i. record { entries = x.entries i; made = h.made }

kept : (r : Rules) (ks : List UndoRecord) (made : ℕ) (now : State) → ReplaysTo r r.start ks now
    → Rise 0 (entries_of ks) made → Kept r (history_of ks made)
kept r ks made now h rising = record { records = ks; entries = refl; now = now; replays = h; rising = rising }

stepped : (r : Rules) (ks : List UndoRecord) (made : ℕ) (now : State) (l : Label) (d : Step) (o : Outcome)
    → ReplaysTo r r.start ks now → Rise 0 (entries_of ks) made → step_at r now l ≡ d → d.outcome ≡ o
    → Kept r (history_with (history_of ks made) (entry_for made l d) o)
stepped r ks made now l d (outcome.Updates us) h rising same is =
    let k : UndoRecord = record { entry = entry_for made l d; footprint = d.footprint; back = back_of d now } in
    let t : State = updated d.footprint us now in
    let taken : next_state r now l ≡ Some t = ap (λ (e : Step). state_after_outcome e.footprint e.outcome now) same
    ∙ ap (λ o. state_after_outcome d.footprint o now) is in
    let right : IsRight d now k = record { footprint = refl; back = refl; line = refl } in
    record {
      records = ks ++ k ∷ [];
      entries = map-append (λ (x : UndoRecord). x.entry) ks (k ∷ []);
      now = t;
      replays = ReplaysTo-push r r.start ks k now t h taken (subst (λ (e : Step). IsRight e now k) (sym same) right);
      rising = Rise-pushed made ks k rising refl;
    }
stepped r ks made now l d (outcome.Blocked b) h rising same is = kept r ks made now h rising
stepped r ks made now l d outcome.Ended h rising same is = kept r ks made now h rising

undone : (r : Rules) (ks : List UndoRecord) (made : ℕ) (now : State) (w : ℕ) → ReplaysTo r r.start ks now
    → Rise 0 (entries_of ks) made → Kept r (after_undo r (history_of ks made) w)
undone r ks made now w h rising =
    ⊎_elim (λ same. subst (Kept r) (sym same) (kept r ks made now h rising))
    (λ (x : TakesOne r ks made w). subst (Kept r) (sym x.after)
    (kept r (x.before ++ x.later) made x.now x.replays
    (Rise-removed 0 made x.before x.taken x.later (subst (λ xs. Rise 0 (entries_of xs) made) x.split rising))))
    (undone_or r ks made now w h)

rolled_back : (r : Rules) (ks : List UndoRecord) (made : ℕ) (now : State) (serial : ℕ) → ReplaysTo r r.start ks now
    → Rise 0 (entries_of ks) made → Kept r (after_roll r (history_of ks made) serial)
rolled_back r ks made now serial h rising =
    let x = rolls r serial made [] [] ks now h in
    subst (Kept r) (sym (after_roll-is r ks made serial now h))
    (kept r (rest_of serial [] ks) made x.now x.replays (rest_of-rises serial 0 made [] ks rising))

by_command : (r : Rules) (ks : List UndoRecord) (made : ℕ) (now : State) (c : Command) → ReplaysTo r r.start ks now
    → Rise 0 (entries_of ks) made → Kept r (after_command r (history_of ks made) c)
by_command r ks made now (ToStep l) h rising =
    let s : State = state_of_entries r (entries_of ks) in
    stepped r ks made now l (step_at r s l) (step_at r s l).outcome h rising
    (ap (λ t. step_at r t l) (sym (ReplaysTo-now r ks now h))) refl
by_command r ks made now (ToUndo w) h rising = undone r ks made now w h rising
by_command r ks made now (ToRoll serial) h rising = rolled_back r ks made now serial h rising

commanded : (r : Rules) (h : History) (c : Command) → Kept r h → Kept r (after_command r h c)
commanded r h c x = subst (λ y. Kept r (after_command r y c)) (kept-is r h x)
    (by_command r x.records h.made x.now c x.replays x.rising)

run-kept : (r : Rules) (h : History) (cs : List Command) → Kept r h → Kept r (run r h cs)
run-kept r h [] x = x
run-kept r h (c ∷ cs) x = run-kept r (after_command r h c) cs (commanded r h c x)

-- every run has undo records
pub run-has : (r : Rules) (cs : List Command) → Kept r (run r no_history cs)
run-has r cs = run-kept r no_history cs
    (record { records = []; entries = refl; now = r.start; replays = refl; rising = omega arith })

pub remaining : RemainingSteps
remaining = λ r cs. let x = run-has r cs in record {
  state = x.now;
  replayed = subst (λ es. replay r (map label_of es) ≡ Some x.now) x.entries
      (ReplaysTo-replay r r.start x.records x.now x.replays);
}
