-- A past under rules: the step that is next to it, and an entry that is taken out of it.
use Rattle.std.proofs.Common.{◌≡◌, refl, sym, ◌∙◌, ap, subst, true, false, None, Some, List, [], ◌∷◌, ◌++◌, ℕ, suc, ◌+◌}
use Rattle.std.proofs.Common.{◌<◌, ◌≤◌, ◌^◌, length, take, drop, add-one, arith, length-append}
use Rattle.std.specs.Prelude.{slice_get, IfSome, remove}
use Rattle.std.proofs.lemmas.List.{length-take, map-append}
use Rattle.std.proofs.lemmas.List.Edits.{length-remove}
use Rattle.std.proofs.lemmas.Option.{slice_get_within}
use Rattle.om_foot.specs.declared.footprint.Access.{Access}
use Rattle.om_state.specs.declared.step.Update.{Update}
use Rattle.om_state.specs.declared.step.Label.{Label}
use Rattle.om_state.specs.declared.step.Step.{Step}
use Rattle.om_state.specs.declared.step.Outcome.TheVariants as outcome
use Rattle.om_state.specs.State.{State, updated, undo_record, taken_back}
use Rattle.om_state.specs.Rules.{Rules, step_at, state_after_outcome, next_state}
use Rattle.om_memory.specs.declared.memory.Memory.{Memory}
use Rattle.om_memory.specs.Memories.{state_of}
use Rattle.om_undo_history.specs.Laws.{updates_of}
use Rattle.om_undo_history.specs.Runs.{History, label_of, state_of_entries, entry_for, reply_for, history_with}
use Rattle.om_undo_history.specs.Runs.{reply_to_step, after_step, last_place, reply_at, reply_to_undo, history_without}
use Rattle.om_undo_history.specs.Runs.{after_undo}
use Rattle.om_undo_history.specs.declared.reply.UndoReply.{UndoReply}
use Rattle.om_undo_history.specs.declared.reply.UndoReply.TheVariants.{Undone, Conflict, Nothing}
use Rattle.om_undo_history.specs.declared.records.UndoRecord.{UndoRecord}
use Rattle.om_undo_history.specs.Records.{entries_of, IsRight, first_kept_conflict, reply_before, kept_reply}
use Rattle.om_undo_history.specs.Records.{is_undone, IsLastOf}
use Rattle.om_undo_history.specs.Commands.{IsRun, ToStep, ToUndo}
use Rattle.om_undo_history.specs.Bounds.{AreSteady, AreSmall, FitsAll, FitsBack}
use Rattle.om_undo_history.specs.Pasts.{Past, entries_in, IsPast, past_of}
use Rattle.om_undo_history.proofs.Exchange.{Made, made}
use Rattle.om_undo_history.proofs.Bounds.{AreSteady-more, steady_step, steady_record, FitsAll-small, FitsBack-small}
use Rattle.om_undo_history.proofs.Bounds.{now-small}
use Rattle.om_undo_history.proofs.Logs.{ReplaysTo-now, ReplaysTo-push, NoneConflicts, Split, split, ReplaysTo-removed}
use Rattle.om_undo_history.proofs.Places.{HasLast, place_at, last_place-at}
use Rattle.om_undo_history.proofs.Undos.{history_of, none_conflicts, history_without-done, history_without-refused}
use Rattle.om_undo_history.proofs.Undos.{reply_at-split}
use Rattle.om_undo_history.proofs.RunLaws.{IsRun-more}

-- the state of a past is the replay of its entries
pub now-is : (r : Rules) (p : Past) → IsPast r p → state_of_entries r (entries_in p).entries ≡ p.state
now-is r p is = ReplaysTo-now r p.records p.state is.replays

planned_at : (r : Rules) (p : Past) (l : Label) (d : Step) → IsPast r p → d ≡ step_at r p.state l
    → d ≡ step_at r (state_of_entries r (entries_in p).entries) l
planned_at r p l d is planned = planned ∙ ap (λ s. step_at r s l) (sym (now-is r p is))

-- what a step replies and leaves, by what was planned
pub reply_to_step-is : (r : Rules) (p : Past) (l : Label) (d : Step) → IsPast r p → d ≡ step_at r p.state l
    → reply_for (p.made + 1) d.line d.outcome ≡ reply_to_step r (entries_in p) l
reply_to_step-is r p l d is planned = ap (λ (e : Step). reply_for (p.made + 1) e.line e.outcome)
    (planned_at r p l d is planned)

pub after_step-is : (r : Rules) (p : Past) (l : Label) (d : Step) → IsPast r p → d ≡ step_at r p.state l
    → history_with (entries_in p) (entry_for p.made l d) d.outcome ≡ after_step r (entries_in p) l
after_step-is r p l d is planned = ap (λ (e : Step). history_with (entries_in p) (entry_for p.made l e) e.outcome)
    (planned_at r p l d is planned)

pub small : (r : Rules) (p : Past) → IsPast r p → AreSmall (length p.records) p.state
small r p is = now-small r p.records p.state is.steady is.replays

steady_planned : (r : Rules) (p : Past) (l : Label) (d : Step) (us : List Update) → IsPast r p
    → d ≡ step_at r p.state l → d.outcome ≡ outcome.Updates us → AreSteady 0 d.footprint us
steady_planned r p l d us is planned made_of =
    subst (λ (e : Step). AreSteady 0 e.footprint us) (sym planned)
    (steady_step r p.state l us is.steady (ap (λ (e : Step). e.outcome) (sym planned) ∙ made_of))

pub fits_in : (r : Rules) (p : Past) (l : Label) (d : Step) (us : List Update) → IsPast r p → p.made ≤ 2 ^ 63
    → d ≡ step_at r p.state l → d.outcome ≡ outcome.Updates us → FitsAll d.footprint us p.state
fits_in r p l d us is few planned made_of =
    FitsAll-small (length p.records) d.footprint us p.state (omega (arith, is.few))
    (AreSteady-more 0 (length p.records) d.footprint us (omega arith) (steady_planned r p l d us is planned made_of))
    (small r p is)

-- the record of a step
abbrev pub record_for : Past → Label → Step → List Update → UndoRecord
record_for p l d us = record {
  entry = entry_for p.made l d;
  footprint = d.footprint;
  back = undo_record d.footprint us p.state;
}

-- the past after a step's updates
abbrev pub past_after : Past → Label → Step → List Update → Past
past_after p l d us = record {
  state = updated d.footprint us p.state;
  records = p.records ++ record_for p l d us ∷ [];
  made = p.made + 1;
}

pub pushed_entries : (r : Rules) (p : Past) (l : Label) (d : Step) (us : List Update) → IsPast r p
    → d ≡ step_at r p.state l → d.outcome ≡ outcome.Updates us
    → entries_in (past_after p l d us) ≡ after_step r (entries_in p) l
pushed_entries r p l d us is planned made_of =
    (λ i. record {
      entries = map-append (λ (x : UndoRecord). x.entry) p.records (record_for p l d us ∷ []) i;
      made = p.made + 1;
    })
    ∙ ap (history_with (entries_in p) (entry_for p.made l d)) (sym made_of)
    ∙ after_step-is r p l d is planned

pub past-pushed : (r : Rules) (p : Past) (l : Label) (d : Step) (us : List Update) → IsPast r p
    → d ≡ step_at r p.state l → d.outcome ≡ outcome.Updates us → IsPast r (past_after p l d us)
past-pushed r p l d us is planned made_of =
    let s : State = p.state in
    let k : UndoRecord = record_for p l d us in
    let taken : next_state r s l ≡ Some (updated d.footprint us s) =
    ap (λ (e : Step). state_after_outcome e.footprint e.outcome s) (sym planned)
    ∙ ap (λ o. state_after_outcome d.footprint o s) made_of in
    let right : IsRight d s k = record
    { footprint = refl; back = ap (λ o. undo_record d.footprint (updates_of o) s) (sym made_of); line = refl } in
    record {
      steady = is.steady;
      shaped = is.shaped;
      replays = ReplaysTo-push r r.start p.records k s (updated d.footprint us s) is.replays taken
          (subst (λ e. IsRight e s k) planned right);
      reached = subst (IsRun r) (sym (pushed_entries r p l d us is planned made_of))
          (IsRun-more r (entries_in p) (ToStep l) is.reached);
      few = omega (arith, is.few, length-append p.records (k ∷ []));
    }

-- an entry is taken out

pub split_at : (r : Rules) (p : Past) (i : ℕ) (k : UndoRecord) → IsPast r p → slice_get p.records i ≡ Some k
    → Split r r.start (take i p.records) k (drop (suc i) p.records) p.state
split_at r p i k is at = split p.records i k r r.start p.state at is.replays

pub fits_out : (r : Rules) (p : Past) (i : ℕ) (k : UndoRecord) → IsPast r p → p.made ≤ 2 ^ 63
    → slice_get p.records i ≡ Some k → FitsBack k.footprint k.back p.state
fits_out r p i k is few at =
    let parts : Split r r.start (take i p.records) k (drop (suc i) p.records) p.state = split_at r p i k is at in
    let l : Label = label_of k.entry in
    let was : Made r parts.at l parts.after = made r parts.at l parts.after parts.taken in
    let m : ℕ = length (take i p.records) in
    let within : i < length p.records = slice_get_within p.records i k at in
    let footprint : List Access = (step_at r parts.at l).footprint in
    let us : AreSteady m footprint was.updates = AreSteady-more 0 m footprint was.updates (omega arith)
    (steady_step r parts.at l was.updates is.steady was.outcome_is) in
    let backs : AreSteady (m + 1) footprint (undo_record footprint was.updates parts.at) =
    steady_record m footprint was.updates parts.at us
    (now-small r (take i p.records) parts.at is.steady parts.to) in
    let same : undo_record footprint was.updates parts.at ≡ k.back =
    sym (parts.right.back ∙ ap (λ o. undo_record footprint (updates_of o) parts.at) was.outcome_is) in
    let here : AreSteady (m + 1) k.footprint k.back = subst (λ ns. AreSteady (m + 1) ns k.back)
    (sym parts.right.footprint) (subst (AreSteady (m + 1) footprint) same backs) in
    FitsBack-small (length p.records) k.footprint k.back p.state (omega (arith, is.few))
    (AreSteady-more (m + 1) (length p.records) k.footprint k.back (omega (arith, within, length-take i p.records))
    here) (small r p is)

pub none_later : (ks : List UndoRecord) (i : ℕ) (k : UndoRecord) → slice_get ks i ≡ Some k
    → is_undone (kept_reply ks i) ≡ true → NoneConflicts k.footprint (drop (suc i) ks)
none_later ks i k at h =
    none_conflicts k.footprint (drop (suc i) ks) k.entry.serial k.entry.line
    (subst (λ n. is_undone (reply_before (Some k) (drop n ks)) ≡ true) (add-one i)
    (subst (λ o. is_undone (reply_before o (drop (i + 1) ks)) ≡ true) at h))

kept_reply-is : (ks : List UndoRecord) (i : ℕ) (k : UndoRecord) → slice_get ks i ≡ Some k
    → kept_reply ks i ≡ first_kept_conflict k.footprint (drop (suc i) ks) (Undone k.entry.serial k.entry.line)
kept_reply-is ks i k at = ap (λ o. reply_before o (drop (i + 1) ks)) at
    ∙ ap (λ x. first_kept_conflict k.footprint (drop x ks) (Undone k.entry.serial k.entry.line)) (add-one i)

-- what an undo replies, by the records
pub reply_to_undo-is : (r : Rules) (p : Past) (i w : ℕ) (k : UndoRecord) → IsPast r p → IsLastOf w p.records i k
    → reply_to_undo r (entries_in p) w ≡ kept_reply p.records i
reply_to_undo-is r p i w k is last =
    ap (reply_at r) (last_place-at w p.records i k last)
    ∙ reply_at-split r (take i p.records) k (drop (suc i) p.records) p.state (split_at r p i k is last.at)
    ∙ sym (kept_reply-is p.records i k last.at)

-- what an undo leaves that is done, one that is refused, and one of a worker that has no entry
after_undo-done : (r : Rules) (p : Past) (i w : ℕ) (k : UndoRecord) → IsPast r p → IsLastOf w p.records i k
    → is_undone (kept_reply p.records i) ≡ true → after_undo r (entries_in p) w ≡ history_of (remove p.records i) p.made
after_undo-done r p i w k is last done =
    let h : History = entries_in p in
    ap (λ o. history_without h o (reply_to_undo r h w)) (last_place-at w p.records i k last)
    ∙ ap (λ x. history_without h (Some (place_at p.records i k)) x) (reply_to_undo-is r p i w k is last)
    ∙ history_without-done h (place_at p.records i k) (kept_reply p.records i) done
    ∙ (λ j. record {
      entries = sym (map-append (λ (x : UndoRecord). x.entry) (take i p.records) (drop (suc i) p.records)) j;
      made = p.made;
    })

after_undo-refused : (r : Rules) (p : Past) (i w : ℕ) (k : UndoRecord) → IsPast r p → IsLastOf w p.records i k
    → is_undone (kept_reply p.records i) ≡ false → after_undo r (entries_in p) w ≡ entries_in p
after_undo-refused r p i w k is last refused =
    let h : History = entries_in p in
    ap (λ o. history_without h o (reply_to_undo r h w)) (last_place-at w p.records i k last)
    ∙ ap (λ x. history_without h (Some (place_at p.records i k)) x) (reply_to_undo-is r p i w k is last)
    ∙ history_without-refused h (place_at p.records i k) (kept_reply p.records i) refused

after_undo-none : (r : Rules) (p : Past) (w : ℕ) → last_place w (entries_of p.records) ≡ None
    → after_undo r (entries_in p) w ≡ entries_in p
after_undo-none r p w none = ap (λ o. history_without (entries_in p) o (reply_to_undo r (entries_in p) w)) none

-- a past without the record at an index
abbrev past_without : Past → ℕ → UndoRecord → Past
past_without p i k = record {
  state = taken_back k.footprint k.back p.state;
  records = remove p.records i;
  made = p.made;
}

past-removed : (r : Rules) (p : Past) (i w : ℕ) (k : UndoRecord) → IsPast r p → IsLastOf w p.records i k
    → is_undone (kept_reply p.records i) ≡ true → IsPast r (past_without p i k)
past-removed r p i w k is last done =
    let parts : Split r r.start (take i p.records) k (drop (suc i) p.records) p.state = split_at r p i k is last.at in
    record {
      steady = is.steady;
      shaped = is.shaped;
      replays = ReplaysTo-removed r r.start (take i p.records) k (drop (suc i) p.records) p.state parts
          (none_later p.records i k last.at done);
      reached = subst (IsRun r) (after_undo-done r p i w k is last done)
          (IsRun-more r (entries_in p) (ToUndo w) is.reached);
      few = omega (arith, is.few, length-remove p.records i (slice_get_within p.records i k last.at));
    }

-- an undo, by what the code knows: what `next` is after the record at an index is taken out
pub record TakenFrom (p : Past) (i : ℕ) (next : Past) : Type 0 where
  pub state : IfSome (slice_get p.records i) (λ k. next.state ≡ taken_back k.footprint k.back p.state)
  pub records : next.records ≡ remove p.records i
  pub made : next.made ≡ p.made

taken-is : (p next : Past) (i : ℕ) (k : UndoRecord) → slice_get p.records i ≡ Some k → TakenFrom p i next
    → past_without p i k ≡ next
taken-is p next i k at x =
    let state : next.state ≡ taken_back k.footprint k.back p.state =
    subst (λ o. IfSome o (λ y. next.state ≡ taken_back y.footprint y.back p.state)) at x.state in
    λ j. record { state = sym state j; records = sym x.records j; made = sym x.made j }

pub past_taken : (r : Rules) (p next : Past) (i w : ℕ) → IsPast r p → HasLast w p.records i
    → is_undone (kept_reply p.records i) ≡ true → TakenFrom p i next → IsPast r next
past_taken r p next i w is x done taken = subst (IsPast r) (taken-is p next i x.made x.is_last.at taken)
    (past-removed r p i w x.made is x.is_last done)

pub not_undone : (r : UndoReply) → ((serial line : ℕ) → r ≡ Undone serial line → ⊥) → is_undone r ≡ false
not_undone (Undone serial line) h = absurd (h serial line refl)
not_undone (Conflict serial worker q) h = refl
not_undone Nothing h = refl

pub undo_replies : (r : Rules) (p : Past) (i w : ℕ) (reply : UndoReply) → IsPast r p → HasLast w p.records i
    → reply ≡ kept_reply p.records i → reply ≡ reply_to_undo r (entries_in p) w
undo_replies r p i w reply is x replied = replied ∙ sym (reply_to_undo-is r p i w x.made is x.is_last)

pub undo_done : (r : Rules) (p next : Past) (i w : ℕ) → IsPast r p → HasLast w p.records i
    → is_undone (kept_reply p.records i) ≡ true → TakenFrom p i next → entries_in next ≡ after_undo r (entries_in p) w
undo_done r p next i w is x done taken = ap entries_in (sym (taken-is p next i x.made x.is_last.at taken))
    ∙ sym (after_undo-done r p i w x.made is x.is_last done)

pub undo_refused : (r : Rules) (p : Past) (i w : ℕ) → IsPast r p → HasLast w p.records i
    → is_undone (kept_reply p.records i) ≡ false → entries_in p ≡ after_undo r (entries_in p) w
undo_refused r p i w is x refused = sym (after_undo-refused r p i w x.made is x.is_last refused)

pub undo_of_none : (r : Rules) (p : Past) (w : ℕ) → last_place w (entries_of p.records) ≡ None
    → entries_in p ≡ after_undo r (entries_in p) w
undo_of_none r p w none = sym (after_undo-none r p w none)

pub past_after-is : (p : Past) (l : Label) (d : Step) (us : List Update) (after : Memory) (more : List UndoRecord)
    → state_of after ≡ updated d.footprint us p.state → more ≡ p.records ++ record_for p l d us ∷ []
    → past_after p l d us ≡ past_of after more (p.made + 1)
past_after-is p l d us after more state added =
    λ j. record { state = sym state j; records = sym added j; made = p.made + 1 }
