-- What is true of a store and its small records: behind a step, and where a record is taken out.
use Rattle.std.proofs.Common.{◌≡◌, refl, sym, ◌∙◌, ap, subst, true, Some, List, [], ◌∷◌, ◌++◌, ℕ, suc}
use Rattle.std.proofs.Common.{◌+◌, ◌<◌, ◌^◌, take, drop, remove, slice_get, arith}
use Rattle.std.specs.Prelude.{All, IfSome}
use Rattle.std.proofs.lemmas.List.Elements.{All-weaker, All-push, All-append, All-take, All-drop, All-get_or}
use Rattle.std.proofs.lemmas.List.Elements.{All-head}
use Rattle.std.proofs.lemmas.Option.{slice_get_within, get_or_from_slice_get}
use Rattle.om_foot.specs.declared.object.Obj.{Obj}
use Rattle.om_foot.specs.declared.object.Obj.TheVariants as obj
use Rattle.om_foot.specs.declared.footprint.Mode.TheVariants as mode
use Rattle.om_foot.specs.declared.footprint.Access.{Access}
use Rattle.om_state.specs.declared.control.Control as controls
use Rattle.om_state.specs.declared.control.Control.TheVariants.{Idle, Running, Faulted, Ended}
use Rattle.om_state.specs.declared.value.Val.TheVariants as value
use Rattle.om_state.specs.declared.control.Edit.{Edit}
use Rattle.om_state.specs.declared.step.Change.{Change}
use Rattle.om_state.specs.declared.step.Entry.{Entry}
use Rattle.om_state.specs.declared.step.Label.{Label}
use Rattle.om_state.specs.declared.step.Step.{Step}
use Rattle.om_state.specs.declared.step.Outcome.TheVariants as outcome
use Rattle.om_state.specs.declared.step.Update.{Update}
use Rattle.om_state.specs.declared.step.Update.TheVariants.{Put, Keep}
use Rattle.om_state.specs.Changes.{step_of}
use Rattle.om_state.specs.Edits.{HaveRoom}
use Rattle.om_state.specs.Values.{control_in}
use Rattle.om_state.specs.State.{State, updated, undo_record, taken_back, values_read}
use Rattle.om_state.specs.Rules.{Rules, step_at, control_access}
use Rattle.om_memory.specs.declared.memory.Memory.{Memory}
use Rattle.om_memory.specs.Faults.{fault_in}
use Rattle.om_memory.specs.Memories.{Pasts, state_of, is_kept, pasts_of}
use Rattle.om_undo_history.specs.Laws.{updates_of}
use Rattle.om_undo_history.specs.Runs.{label_of, entry_for, fault_of}
use Rattle.om_undo_history.specs.declared.records.UndoRecord.{UndoRecord}
use Rattle.om_undo_history.specs.declared.history.History.{History}
use Rattle.om_undo_history.specs.Records.{transitions_of, HasRoom, kept_reply, is_undone, IsLastOf}
use Rattle.om_undo_history.specs.Shapes.{IsShaped, AreShaped}
use Rattle.om_undo_history.specs.Fills.{filled, popped_all, marked_back, full, before, full_all, small_record, noted_all}
use Rattle.om_undo_history.specs.Fills.{AreMarked, CanTakeBack, control_at}
use Rattle.om_undo_history.specs.Takes.{updates_by, IsOwn, CanMake, small_for, CanLeave}
use Rattle.om_undo_history.specs.Pasts.{Past, past_of, IsPast, IsKept, past_in}
use Rattle.om_undo_history.proofs.Exchange.{Made, made}
use Rattle.om_undo_history.proofs.Logs.{Split}
use Rattle.om_undo_history.proofs.Places.{HasLast}
use Rattle.om_undo_history.proofs.Fills.{popped_all-noted, after_a_step}
use Rattle.om_undo_history.proofs.TakingBack.{made_back, taken_back-made}
use Rattle.om_undo_history.proofs.Removed.{RemovedAt, removed, last_full, full_transitions, full_kept_reply}
use Rattle.om_undo_history.proofs.Marks.{steps_mark, marks_have_pasts}
use Rattle.om_undo_history.proofs.Soundness.{fits_in, fits_out, split_at, none_later, record_for, past_after, past_after-is}
use Rattle.om_undo_history.proofs.Soundness.{past-pushed, TakenFrom, past_taken}

-- what the small records of a history are read for is that of those that they stand for
pub transitions-are : (h : History) → transitions_of h.records ≡ transitions_of (past_in h).records
transitions-are h = sym (full_transitions (pasts_of h.store) h.records)

pub fault-is : (c : controls.Control) (us : List Update) → fault_in c ≡ fault_of (Put (value.Control c) ∷ us)
fault-is Idle us = refl
fault-is (Running stack) us = refl
fault-is (Faulted fault stack) us = refl
fault-is (Ended n) us = refl

-- a step's first access is its worker's control, and what it puts at controls are controls

own_step : (r : Rules) (s : State) (l : Label) → IsOwn l.worker (step_at r s l).footprint
unfolding step_at
own_step r s l = refl

shaped_step : (r : Rules) (s : State) (l : Label) (us : List Update) → IsShaped r
    → (step_at r s l).outcome ≡ outcome.Updates us → AreShaped (step_at r s l).footprint us
unfolding step_at
shaped_step r s l us shaped h = shaped.steps l (s (control_access l).object)
    (values_read (r.further l (s (control_access l).object)) s) us h

pub can_make : (r : Rules) (store : Memory) (ks : List UndoRecord) (n : ℕ) (l : Label) (c : Change)
    → IsKept r store ks n → HaveRoom c.edits (control_in (state_of store (obj.Control l.worker)))
    → step_of (control_in (state_of store (obj.Control l.worker))) c ≡ step_at r (state_of store) l
    → CanMake l.worker c.footprint c.edits c.updates (state_of store)
can_make r store ks n l c kept room planned =
    let p : Past = past_of store (full_all (pasts_of store) ks) n in
    let d : Step = step_of (control_in (state_of store (obj.Control l.worker))) c in
    let us : List Update = updates_by l.worker c.edits c.updates (state_of store) in
    record {
      own = subst (λ (e : Step). IsOwn l.worker e.footprint) (sym planned) (own_step r p.state l);
      room = room;
      fits = fits_in r p l d us kept.past kept.few_made planned refl;
      shaped = subst (λ (e : Step). AreShaped e.footprint us) (sym planned)
          (shaped_step r p.state l us kept.past.shaped (ap (λ (e : Step). e.outcome) (sym planned)));
    }

-- the mark that is left out is that of the worker's own control
pub own_mark : (w : ℕ) (footprint : List Access) (es : List Edit) (us : List Update) (s : State) → IsOwn w footprint
    → Keep ∷ drop 1 (small_record footprint (updates_by w es us s) s) ≡ small_record footprint (updates_by w es us s) s
own_mark w footprint es us s own =
    subst (λ xs. Keep ∷ drop 1 (small_record xs (updates_by w es us s) s) ≡ small_record xs (updates_by w es us s) s)
    (sym own) refl

-- the objects of the records are kept

abbrev AreKept : Memory → List UndoRecord → Type 0
AreKept store ks = All (λ x. HasRoom store x) ks

abbrev AreAllMarked : List UndoRecord → Type 0
AreAllMarked ks = All (λ (k : UndoRecord). AreMarked k.footprint (marked_back k)) ks

kept-more : (old new : Memory) (ks : List UndoRecord)
    → ((q : Obj) → is_kept old q ≡ true → is_kept new q ≡ true) → AreKept old ks → AreKept new ks
kept-more old new ks others h =
    All-weaker (λ x. HasRoom old x) (λ x. HasRoom new x)
    (λ x g. All-weaker (λ (a : Access). is_kept old a.object ≡ true)
    (λ (a : Access). is_kept new a.object ≡ true) (λ a f. others a.object f) x.footprint g) ks h

pub own_kept : (store : Memory) (w : ℕ) (footprint : List Access) → IsOwn w footprint
    → All (λ (a : Access). is_kept store a.object ≡ true) footprint → is_kept store (obj.Control w) ≡ true
own_kept store w footprint own all = All-head (λ (a : Access). is_kept store a.object ≡ true)
    (control_at w mode.Write) (drop 1 footprint)
    (subst (All (λ (a : Access). is_kept store a.object ≡ true)) own all)

pub rest_kept : (old new : Memory) (footprint rest : List Access) → rest ≡ drop 1 footprint
    → ((q : Obj) → is_kept new q ≡ is_kept old q) → All (λ (a : Access). is_kept old a.object ≡ true) footprint
    → All (λ (a : Access). is_kept new a.object ≡ true) rest
rest_kept old new footprint rest is same all = subst (All (λ (a : Access). is_kept new a.object ≡ true)) (sym is)
    (All-drop (λ (a : Access). is_kept new a.object ≡ true) 1 footprint
    (All-weaker (λ (a : Access). is_kept old a.object ≡ true) (λ (a : Access). is_kept new a.object ≡ true)
    (λ a f. same a.object ∙ f) footprint all))

-- what was made can be taken out again

module _ (old new : Memory) (e : Entry) (c : Change)
    (can : CanMake e.worker c.footprint c.edits c.updates (state_of old))
    (state : state_of new ≡ updated c.footprint (updates_by e.worker c.edits c.updates (state_of old)) (state_of old))
    (pasts : pasts_of new ≡ noted_all c.footprint (updates_by e.worker c.edits c.updates (state_of old)) (state_of old)
    (pasts_of old)) where
  abbrev pub then : List Update
  then = updates_by e.worker c.edits c.updates (state_of old)

  marked_is : marked_back (small_for e c (state_of old)) ≡ small_record c.footprint then (state_of old)
  marked_is = own_mark e.worker c.footprint c.edits c.updates (state_of old) can.own

  pub made_can : All (λ (a : Access). is_kept new a.object ≡ true) c.footprint
      → CanLeave new (small_for e c (state_of old))
  made_can room = record {
    own = can.own;
    room = room;
    can = subst (λ xs. CanTakeBack c.footprint xs (state_of new) (pasts_of new)) (sym marked_is)
        (subst (λ t. CanTakeBack c.footprint (small_record c.footprint then (state_of old)) t (pasts_of new)) (sym state)
        (subst (λ qs. CanTakeBack c.footprint (small_record c.footprint then (state_of old))
        (updated c.footprint then (state_of old)) qs) (sym pasts)
        (made_back c.footprint then (state_of old) (pasts_of old) can.shaped can.fits)));
  }

  pub made_state : taken_back c.footprint (full (pasts_of new) (small_for e c (state_of old))).back (state_of new)
      ≡ state_of old
  made_state = (λ j. taken_back c.footprint (filled c.footprint (marked_is j) (pasts j)) (state j))
      ∙ taken_back-made c.footprint then (state_of old) (pasts_of old) can.shaped

  pub made_pasts : before (pasts_of new) (small_for e c (state_of old)) ≡ pasts_of old
  made_pasts = (λ j. popped_all c.footprint (marked_is j) (pasts j))
      ∙ popped_all-noted c.footprint then (state_of old) (pasts_of old) can.shaped

-- a step is made

module _ (r : Rules) (old new : Memory) (ks more : List UndoRecord) (n : ℕ) (l : Label) (c : Change)
    (kept : IsKept r old ks n) (few : n < 2 ^ 63)
    (can : CanMake l.worker c.footprint c.edits c.updates (state_of old))
    (planned : step_of (control_in (state_of old (obj.Control l.worker))) c ≡ step_at r (state_of old) l)
    (state : state_of new ≡ updated c.footprint (updates_by l.worker c.edits c.updates (state_of old)) (state_of old))
    (pasts : pasts_of new ≡ noted_all c.footprint (updates_by l.worker c.edits c.updates (state_of old)) (state_of old)
    (pasts_of old))
    (added : more ≡ ks ++ small_for (entry_for n l (step_of (control_in (state_of old (obj.Control l.worker))) c)) c
    (state_of old) ∷ []) where
  abbrev pub d : Step
  d = step_of (control_in (state_of old (obj.Control l.worker))) c

  abbrev pub us : List Update
  us = updates_by l.worker c.edits c.updates (state_of old)

  abbrev pub p : Past
  p = past_of old (full_all (pasts_of old) ks) n

  mark : Keep ∷ drop 1 (small_record c.footprint us (state_of old)) ≡ small_record c.footprint us (state_of old)
  mark = own_mark l.worker c.footprint c.edits c.updates (state_of old) can.own

  fulls : full_all (pasts_of new) more ≡ full_all (pasts_of old) ks ++ record_for p l d us ∷ []
  fulls = (λ j. full_all (pasts j) (added j))
      ∙ after_a_step ks (pasts_of old) (state_of old) (entry_for n l d) c.footprint us
      (drop 1 (small_record c.footprint us (state_of old))) can.shaped mark

  pub past_with : past_after p l d us ≡ past_of new (full_all (pasts_of new) more) (n + 1)
  past_with = past_after-is p l d us new (full_all (pasts_of new) more) state fulls

  pub kept_with : All (λ (a : Access). is_kept new a.object ≡ true) c.footprint
      → ((q : Obj) → is_kept old q ≡ true → is_kept new q ≡ true) → IsKept r new more (n + 1)
  kept_with room others =
      let k : UndoRecord = small_for (entry_for n l d) c (state_of old) in
      record {
        rooms = subst (AreKept new) (sym added)
            (All-push (λ x. HasRoom new x) ks k (kept-more old new ks others kept.rooms) room);
        marked = subst AreAllMarked (sym added)
            (All-push (λ (x : UndoRecord). AreMarked x.footprint (marked_back x)) ks k kept.marked
            (subst (AreMarked c.footprint) (sym mark) (steps_mark c.footprint us (state_of old) can.shaped)));
        few_made = omega (arith, few);
        past = subst (IsPast r) past_with (past-pushed r p l d us kept.past planned refl);
      }

-- a record is taken out

at_index : (P : UndoRecord → Type 0) (ks : List UndoRecord) (i : ℕ) (k : UndoRecord) → slice_get ks i ≡ Some k
    → All P ks → P k
at_index P ks i k at all = subst P (get_or_from_slice_get ks i k k at)
    (All-get_or P ks i k (slice_get_within ks i k at) all)

pub can_leave : (r : Rules) (store : Memory) (ks : List UndoRecord) (n i : ℕ) (k : UndoRecord) → IsKept r store ks n
    → slice_get ks i ≡ Some k → is_undone (kept_reply ks i) ≡ true → CanLeave store k
can_leave r store ks n i k kept at done =
    let ps : Pasts = pasts_of store in
    let p : Past = past_of store (full_all ps ks) n in
    let x : RemovedAt ps ks i k = removed ks i ps k at (none_later ks i k at done) in
    let parts : Split r r.start (take i p.records) (full ps k) (drop (suc i) p.records) p.state =
    split_at r p i (full ps k) kept.past x.at in
    let l : Label = label_of k.entry in
    let was : Made r parts.at l parts.after = made r parts.at l parts.after parts.taken in
    let footprint : List Access = (step_at r parts.at l).footprint in
    let shaped : AreShaped k.footprint was.updates = subst (λ ns. AreShaped ns was.updates) (sym parts.right.footprint)
    (shaped_step r parts.at l was.updates kept.past.shaped was.outcome_is) in
    let marked : AreMarked k.footprint (marked_back k) =
    at_index (λ (y : UndoRecord). AreMarked y.footprint (marked_back y)) ks i k at kept.marked in
    let back : filled k.footprint (marked_back k) ps ≡ undo_record k.footprint was.updates parts.at =
    parts.right.back ∙ ap (λ o. undo_record footprint (updates_of o) parts.at) was.outcome_is
    ∙ ap (λ ns. undo_record ns was.updates parts.at) (sym parts.right.footprint) in
    record {
      own = subst (IsOwn l.worker) (sym parts.right.footprint) (own_step r parts.at l);
      room = at_index (λ y. HasRoom store y) ks i k at kept.rooms;
      can = record {
        marked = marked;
        pasts = marks_have_pasts k.footprint was.updates (marked_back k) parts.at ps shaped marked back;
        fits = fits_out r p i (full ps k) kept.past kept.few_made x.at;
      };
    }

pub has_last : (w : ℕ) (ps : Pasts) (ks : List UndoRecord) (i : ℕ) (k : UndoRecord) → IsLastOf w ks i k
    → HasLast w (full_all ps ks) i
has_last w ps ks i k last = record { made = _; is_last = last_full w ps ks i k last }

module _ (r : Rules) (old new : Memory) (ks rest : List UndoRecord) (n i w : ℕ) (k : UndoRecord)
    (last : IsLastOf w ks i k) (done : is_undone (kept_reply ks i) ≡ true)
    (state : state_of new ≡ taken_back k.footprint (full (pasts_of old) k).back (state_of old))
    (pasts : pasts_of new ≡ before (pasts_of old) k) (left : rest ≡ remove ks i) where
  x : RemovedAt (pasts_of old) ks i k
  x = removed ks i (pasts_of old) k last.at (none_later ks i k last.at done)

  pub done_in : is_undone (kept_reply (full_all (pasts_of old) ks) i) ≡ true
  done_in = ap is_undone (full_kept_reply (pasts_of old) ks i) ∙ done

  pub taken_from : TakenFrom (past_of old (full_all (pasts_of old) ks) n) i
      (past_of new (full_all (pasts_of new) rest) n)
  taken_from = record {
    state = subst (λ o. IfSome o (λ (y : UndoRecord). state_of new ≡ taken_back y.footprint y.back (state_of old)))
        (sym x.at) state;
    records = (λ j. full_all (pasts j) (left j)) ∙ sym x.without;
    made = refl;
  }

  pub kept_without : IsKept r old ks n → ((q : Obj) → is_kept new q ≡ is_kept old q) → IsKept r new rest n
  kept_without kept same =
      let rooms : AreKept new ks = kept-more old new ks (λ q h. same q ∙ h) kept.rooms in
      let less : AreKept new (remove ks i) = All-append (λ y. HasRoom new y) (take i ks) (drop (suc i) ks)
      (All-take (λ y. HasRoom new y) i ks rooms) (All-drop (λ y. HasRoom new y) (suc i) ks rooms) in
      let marks : AreAllMarked (remove ks i) =
      All-append (λ (y : UndoRecord). AreMarked y.footprint (marked_back y)) (take i ks) (drop (suc i) ks)
      (All-take (λ (y : UndoRecord). AreMarked y.footprint (marked_back y)) i ks kept.marked)
      (All-drop (λ (y : UndoRecord). AreMarked y.footprint (marked_back y)) (suc i) ks kept.marked) in
      record {
        rooms = subst (AreKept new) (sym left) less;
        marked = subst AreAllMarked (sym left) marks;
        few_made = kept.few_made;
        past = past_taken r (past_of old (full_all (pasts_of old) ks) n)
            (past_of new (full_all (pasts_of new) rest) n) i w kept.past (has_last w (pasts_of old) ks i k last)
            done_in taken_from;
      }

-- a store that holds the same, and keeps no less
pub kept-same : (r : Rules) (old new : Memory) (ks same : List UndoRecord) (n : ℕ) → IsKept r old ks n
    → state_of new ≡ state_of old → pasts_of new ≡ pasts_of old → same ≡ ks
    → ((q : Obj) → is_kept old q ≡ true → is_kept new q ≡ true) → IsKept r new same n
kept-same r old new ks same n kept state pasts records others = record {
  rooms = subst (AreKept new) (sym records) (kept-more old new ks others kept.rooms);
  marked = subst AreAllMarked (sym records) kept.marked;
  few_made = kept.few_made;
  past = subst (IsPast r)
      (λ j. record { state = sym state j; records = full_all (sym pasts j) (sym records j); made = n }) kept.past;
}
