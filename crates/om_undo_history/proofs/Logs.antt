-- Taking an entry out of the undo records.
use Rattle.std.proofs.Common.{◌≡◌, refl, sym, ◌∙◌, ap, subst, Some, List, [], ◌∷◌, ◌++◌, ℕ, zero, suc, take, drop}
use Rattle.std.specs.Prelude.{Option, None, option_map, slice_get, unwrap_or}
use Rattle.std.specs.Option.{option_or}
use Rattle.om_foot.specs.declared.object.Obj.{Obj}
use Rattle.om_foot.specs.declared.footprint.Access.{Access}
use Rattle.om_foot.specs.Footprint.{conflict_of}
use Rattle.om_foot.specs.Apart.{AllApart, AllApart-flip, all_apart}
use Rattle.om_state.specs.declared.step.Entry.{Entry}
use Rattle.om_state.specs.declared.step.Label.{Label}
use Rattle.om_state.specs.declared.step.Step.{Step}
use Rattle.om_state.specs.State.{State, updated, taken_back}
use Rattle.om_state.specs.Rules.{Rules, step_at, next_state}
use Rattle.om_undo_history.specs.Laws.{Apart, updates_of}
use Rattle.om_undo_history.specs.Runs.{label_of, state_of_entries, state_after_step, Obstacle, first_conflict, reply_against}
use Rattle.om_undo_history.specs.declared.reply.UndoReply.TheVariants.{Undone}
use Rattle.om_undo_history.specs.declared.records.UndoRecord.{UndoRecord}
use Rattle.om_undo_history.specs.Records.{conflict_or, entries_of, back_of, IsRight, ReplaysTo, first_kept_conflict}
use Rattle.om_undo_history.specs.Replayed.{ReplaysTo-replay}
use Rattle.om_undo_history.proofs.Frame.{undo_record-agree}
use Rattle.om_undo_history.proofs.Back.{taken_back-updated}
use Rattle.om_undo_history.proofs.Exchange.{Made, made, Swapped, swapped}

pub ReplaysTo-now : (r : Rules) (ks : List UndoRecord) (now : State) → ReplaysTo r r.start ks now
    → state_of_entries r (entries_of ks) ≡ now
ReplaysTo-now r ks now h = ap (λ o. unwrap_or o r.start) (ReplaysTo-replay r r.start ks now h)

pub ReplaysTo-push : (r : Rules) (s : State) (ks : List UndoRecord) (k : UndoRecord) (now t : State)
    → ReplaysTo r s ks now → next_state r now (label_of k.entry) ≡ Some t
    → IsRight (step_at r now (label_of k.entry)) now k → ReplaysTo r s (ks ++ k ∷ []) t
ReplaysTo-push r s [] k now t h made right = (
  t,
  subst (λ x. next_state r x (label_of k.entry) ≡ Some t) (sym h) made,
  subst (λ x. IsRight (step_at r x (label_of k.entry)) x k) (sym h) right,
  refl,
)
ReplaysTo-push r s (x ∷ xs) k now t h made right = (h.0, h.1, h.2, ReplaysTo-push r h.0 xs k now t h.3 made right)

-- no later entry conflicts with a footprint
abbrev pub NoneConflicts : List Access → List UndoRecord → Type 0
NoneConflicts footprint [] = Unit {0}
NoneConflicts footprint (k ∷ ks) = Apart footprint k.footprint × NoneConflicts footprint ks

abbrev without : Step → State → State → State
without d before now = taken_back d.footprint (back_of d before) now

-- without a step with which no later one conflicts, what is kept stays right
ReplaysTo-without : (ks : List UndoRecord) (r : Rules) (l : Label) (s s1 now : State) → next_state r s l ≡ Some s1
    → ReplaysTo r s1 ks now → NoneConflicts (step_at r s l).footprint ks
    → ReplaysTo r s ks (without (step_at r s l) s now)
ReplaysTo-without [] r l s s1 now taken rest apart =
    let was : Made r s l s1 = made r s l s1 taken in
    let d : Step = step_at r s l in
    let us : updates_of d.outcome ≡ was.updates = ap updates_of was.outcome_is in
    let to_now : updated d.footprint (updates_of d.outcome) s ≡ now = ap (λ x. updated d.footprint x s) us
    ∙ was.state_is ∙ rest in
    sym (ap (taken_back d.footprint (back_of d s)) (sym to_now)
    ∙ taken_back-updated d.footprint (updates_of d.outcome) s)
ReplaysTo-without (k ∷ ks) r l s s1 now taken rest apart =
    let d : Step = step_at r s l in
    let m : Label = label_of k.entry in
    let s2 : State = rest.0 in
    let right : IsRight (step_at r s1 m) s1 k = rest.2 in
    let apart_k : Apart d.footprint (step_at r s1 m).footprint =
    subst (λ ns. Apart d.footprint ns) right.footprint apart.0 in
    let x : Swapped r s l m s1 s2 = swapped r s s1 s2 l m taken rest.1 apart_k in
    let was : Made r s l s1 = made r s l s1 taken in
    let fb : List Access = (step_at r s1 m).footprint in
    let all : AllApart d.footprint fb = all_apart d.footprint fb apart_k in
    let mid : State = updated fb x.updates s in
    let apart_mid : NoneConflicts (step_at r mid l).footprint ks = subst (λ (e : Step). NoneConflicts e.footprint ks)
    (sym x.a_same) apart.1 in
    let ih : ReplaysTo r mid ks (without (step_at r mid l) mid now) =
    ReplaysTo-without ks r l mid s2 now x.a_then rest.3 apart_mid in
    let kept : back_of d mid ≡ back_of d s = undo_record-agree fb d.footprint x.updates (updates_of d.outcome) s
    (AllApart-flip d.footprint fb all) in
    let end : without (step_at r mid l) mid now ≡ without d s now = ap (λ (e : Step). without e mid now) x.a_same
    ∙ ap (λ us. taken_back d.footprint us now) kept in
    let same_back : back_of (step_at r s1 m) s1 ≡ back_of (step_at r s m) s =
    ap (λ x. back_of (step_at r s1 m) x) (sym was.state_is)
    ∙ undo_record-agree d.footprint fb was.updates (updates_of (step_at r s1 m).outcome) s all
    ∙ ap (λ (e : Step). back_of e s) (sym x.b_same) in (
      mid,
      x.b_first,
      record {
        footprint = right.footprint ∙ ap (λ (e : Step). e.footprint) (sym x.b_same);
        back = right.back ∙ same_back;
        line = right.line ∙ ap (λ (e : Step). e.line) (sym x.b_same);
      },
      subst (λ t. ReplaysTo r mid ks t) end ih,
    )

-- what is kept, split at an entry
pub record Split (r : Rules) (s : State) (before : List UndoRecord) (k : UndoRecord) (later : List UndoRecord)
    (now : State) : Type 0 where
  pub at : State
  pub after : State
  pub to : ReplaysTo r s before at
  pub taken : next_state r at (label_of k.entry) ≡ Some after
  pub right : IsRight (step_at r at (label_of k.entry)) at k
  pub rest : ReplaysTo r after later now

pub split : (ks : List UndoRecord) (i : ℕ) (k : UndoRecord) (r : Rules) (s now : State) → slice_get ks i ≡ Some k
    → ReplaysTo r s ks now → Split r s (take i ks) k (drop (suc i) ks) now
split [] i k r s now at h = cc
split (x ∷ xs) zero k r s now at h =
    let is : x ≡ k = cc in
    record {
      at = s;
      after = h.0;
      to = refl;
      taken = subst (λ (y : UndoRecord). next_state r s (label_of y.entry) ≡ Some h.0) is h.1;
      right = subst (λ (y : UndoRecord). IsRight (step_at r s (label_of y.entry)) s y) is h.2;
      rest = h.3;
    }
split (x ∷ xs) (suc i) k r s now at h =
    let ih : Split r h.0 (take i xs) k (drop (suc i) xs) now = split xs i k r h.0 now at h.3 in
    record {
      at = ih.at;
      after = ih.after;
      to = (h.0, h.1, h.2, ih.to);
      taken = ih.taken;
      right = ih.right;
      rest = ih.rest;
    }

pub ReplaysTo-append : (r : Rules) (s : State) (ks ms : List UndoRecord) (mid now : State) → ReplaysTo r s ks mid
    → ReplaysTo r mid ms now → ReplaysTo r s (ks ++ ms) now
ReplaysTo-append r s [] ms mid now h g = subst (λ x. ReplaysTo r x ms now) (sym h) g
ReplaysTo-append r s (k ∷ ks) ms mid now h g = (h.0, h.1, h.2, ReplaysTo-append r h.0 ks ms mid now h.3 g)

-- an entry with which no later one conflicts is taken out
pub ReplaysTo-removed : (r : Rules) (s : State) (before : List UndoRecord) (k : UndoRecord) (later : List UndoRecord)
    (now : State) → Split r s before k later now → NoneConflicts k.footprint later
    → ReplaysTo r s (before ++ later) (taken_back k.footprint k.back now)
ReplaysTo-removed r s before k later now p apart =
    let d : Step = step_at r p.at (label_of k.entry) in
    let apart_d : NoneConflicts d.footprint later = subst (λ ns. NoneConflicts ns later) p.right.footprint apart in
    let gone : ReplaysTo r p.at later (without d p.at now) = ReplaysTo-without later r (label_of k.entry) p.at p.after
    now p.taken p.rest apart_d in
    let end : without d p.at now ≡ taken_back k.footprint k.back now = ap (λ ns. taken_back ns (back_of d p.at) now)
    (sym p.right.footprint) ∙ ap (λ us. taken_back k.footprint us now) (sym p.right.back) in
    ReplaysTo-append r s before later p.at _ p.to (subst (λ t. ReplaysTo r p.at later t) end gone)

-- an entry that conflicts is named; else the reply is to what stands in the way behind it
named_or : (undone e : Entry) (o : Option Obj) (next : Option Obstacle)
    → reply_against undone (option_or (option_map (λ q. record { entry = e; object = q }) o) next)
    ≡ conflict_or e o (reply_against undone next)
unfolding reply_against
named_or undone e (Some q) next = refl
named_or undone e None next = refl

pub first_kept_conflict-is : (r : Rules) (footprint : List Access) (s : State) (ks : List UndoRecord) (now : State)
    (undone : Entry) → ReplaysTo r s ks now
    → reply_against undone (first_conflict r footprint s (entries_of ks))
    ≡ first_kept_conflict footprint ks (Undone undone.serial undone.line)
unfolding reply_against
first_kept_conflict-is r footprint s [] now undone h = refl
first_kept_conflict-is r footprint s (k ∷ ks) now undone h =
    named_or undone k.entry (conflict_of footprint (step_at r s (label_of k.entry)).footprint)
    (first_conflict r footprint (state_after_step r s (label_of k.entry)) (entries_of ks))
    ∙ ap (λ ns. conflict_or k.entry (conflict_of footprint ns)
    (reply_against undone (first_conflict r footprint (state_after_step r s (label_of k.entry)) (entries_of ks))))
    (sym h.2.footprint)
    ∙ ap (λ t. conflict_or k.entry (conflict_of footprint k.footprint)
    (reply_against undone (first_conflict r footprint t (entries_of ks)))) (ap (λ o. unwrap_or o s) h.1)
    ∙ ap (conflict_or k.entry (conflict_of footprint k.footprint))
    (first_kept_conflict-is r footprint h.0 ks now undone h.3)
