-- A history that is made again from its entries.
use Rattle.std.proofs.Common.{◌≡◌, refl, ap, sym, ◌∙◌, subst, ℕ, suc, ◌+◌, ◌<◌, Option, None, Some, List, [], ◌∷◌, ◌++◌}
use Rattle.std.proofs.Common.{length, take, drop, get_or, arith, length-append, take-append-drop}
use Rattle.std.specs.Prelude.{cond, map, nat_eq, option_map, unwrap_or, Bool, true, false}
use Rattle.std.proofs.lemmas.Bool.Decides.{Decides-eqb}
use Rattle.std.proofs.lemmas.List.{map-append, take_more}
use Rattle.std.proofs.Math.Seq.{drop-cons}
use Rattle.om_code.specs.declared.raw.Raw.{Raw}
use Rattle.om_foot.specs.declared.footprint.Access.{Access}
use Rattle.om_foot.specs.declared.object.Obj.TheVariants as obj
use Rattle.om_state.specs.declared.step.Blocked.{Blocked}
use Rattle.om_state.specs.declared.step.Change.{Change}
use Rattle.om_state.specs.declared.step.Entry.{Entry}
use Rattle.om_state.specs.declared.step.Label.{Label}
use Rattle.om_state.specs.declared.step.Outcome.{Outcome}
use Rattle.om_state.specs.declared.step.Outcome.TheVariants as outcome
use Rattle.om_state.specs.declared.step.Step.{Step}
use Rattle.om_state.specs.declared.step.Update.{Update}
use Rattle.om_state.specs.declared.step.Update.TheVariants.{Put}
use Rattle.om_state.specs.declared.value.Val.TheVariants as value
use Rattle.om_state.specs.Edits.{changed, HaveRoom}
use Rattle.om_state.specs.Rules.{Rules, step_at, next_state, state_after_outcome, and_then, replay, replay_from}
use Rattle.om_state.specs.State.{State}
use Rattle.om_state.specs.Values.{control_in}
use Rattle.om_task.specs.declared.planned.Plan.{Plan}
use Rattle.om_task.specs.declared.planned.Plan.TheVariants as plan
use Rattle.om_task.specs.Plans.{PlanHasRoom}
use Rattle.om_undo_history.specs.declared.history.History as kept
use Rattle.om_undo_history.specs.declared.records.UndoRecord.{UndoRecord}
use Rattle.om_undo_history.specs.Laws.{steps_then, steps_from}
use Rattle.om_undo_history.specs.Runs.{History, label_of, entry_for, history_with, after_step, state_of_entries, state_after_step}
use Rattle.om_undo_history.specs.Cones.{Transition, with_footprints, transitions}
use Rattle.om_undo_history.specs.Records.{entries_of, ReplaysTo}
use Rattle.om_undo_history.specs.Pasts.{past_in, history_in, IsHeld, IsPlanned, IsReplay, step_for}
use Rattle.om_undo_history.specs.Commands.{Rise}
use Rattle.om_undo_history.specs.Standing.{footprint_of, standing_from, stands}
use Rattle.om_undo.specs.Machines.{IsPlan, MachineView, PlansAt, footprint_in, rules_for}
use Rattle.lab_graph.specs.declared.traced.Traced.{Traced}
use Rattle.lab_replay.specs.Traces.{transition_of, CanBeMade, footprint_for, transition_for, IsLonger, IsRemade}

-- ---- a plan, and the step that it stands for

-- where a plan with a change is made, the step that the change stands for is planned
pub is_planned : (r : Rules) (h : kept.History) (l : Label) (p : Plan) (change : Change) → p ≡ plan.Updates change
    → IsPlan r h l p → IsPlanned r h l (step_for l change h)
is_planned r h l p change e is = (is.held, sym (subst (PlansAt r l (past_in h).state) e is.planned))

-- and its edits have room
pub has_room : (r : Rules) (h : kept.History) (l : Label) (p : Plan) (change : Change) → p ≡ plan.Updates change
    → IsPlan r h l p → HaveRoom change.edits (control_in ((past_in h).state (obj.Control l.worker)))
has_room r h l p change e is = subst (PlanHasRoom (control_in ((past_in h).state (obj.Control l.worker)))) e is.room

-- the plan at the state of a history's store is the plan there
pub is_plan : (r : Rules) (h : kept.History) (l : Label) (s : State) (p : Plan) → IsHeld r h → s ≡ (past_in h).state
    → IsReplay h s → PlansAt r l s p → PlanHasRoom (control_in (s (obj.Control l.worker))) p → IsPlan r h l p
is_plan r h l s p held state replays is room = record {
  held = held;
  planned = subst (λ t. PlansAt r l t p) state is;
  replayed = subst (λ t. PlansAt r l t p) (sym (ap (λ o. unwrap_or o r.start) (replays r held))) is;
  room = subst (λ (t : State). PlanHasRoom (control_in (t (obj.Control l.worker))) p) state room;
}

no_block : (fs : List Access) (o : Outcome) (b : Blocked) (s t : State) → o ≡ outcome.Blocked b
    → state_after_outcome fs o s ≡ Some t → ⊥
no_block fs (outcome.Updates us) b s t e k = cc
no_block fs (outcome.Blocked c) b s t e k = cc
no_block fs outcome.Ended b s t e k = cc

no_end : (fs : List Access) (o : Outcome) (s t : State) → o ≡ outcome.Ended → state_after_outcome fs o s ≡ Some t → ⊥
no_end fs (outcome.Updates us) s t e k = cc
no_end fs (outcome.Blocked c) s t e k = cc
no_end fs outcome.Ended s t e k = cc

-- a step that can be made is not blocked, and its worker has not ended
pub not_blocked : (r : Rules) (h : kept.History) (l : Label) (p : Plan) (b : Blocked) → p ≡ plan.Blocked b
    → IsPlan r h l p → CanBeMade r h l → ⊥
not_blocked r h l p b e is can =
    let d : Step = step_at r (past_in h).state l in
    no_block d.footprint d.outcome b (past_in h).state can.0
    (subst (PlansAt r l (past_in h).state) e is.planned) can.1

pub not_ended : (r : Rules) (h : kept.History) (l : Label) (p : Plan) → p ≡ plan.Ended → IsPlan r h l p
    → CanBeMade r h l → ⊥
not_ended r h l p e is can =
    let d : Step = step_at r (past_in h).state l in
    no_end d.footprint d.outcome (past_in h).state can.0 (subst (PlansAt r l (past_in h).state) e is.planned) can.1

-- where a planned step was taken, the history is longer by it
pub longer : (r : Rules) (old new : kept.History) (l : Label) (p : Plan) (change : Change) → p ≡ plan.Updates change
    → IsPlan r old l p → (history_in new ≡ after_step r (history_in old) l) × IsHeld r new → IsLonger r old new l
longer r old new l p change e is taken =
    let h : History = history_in old in
    let s : State = state_of_entries r h.entries in
    let d : Step = step_at r s l in
    let us : List Update = Put (value.Control (changed change.edits (control_in (s (obj.Control l.worker)))))
    ∷ change.updates in
    let o : d.outcome ≡ outcome.Updates us = ap (λ (x : Step). x.outcome) (subst (PlansAt r l s) e is.replayed) in
    let after : history_in new ≡ history_with h (entry_for h.made l d) (outcome.Updates us) =
    taken.0 ∙ ap (λ x. history_with h (entry_for h.made l d) x) o in
    record {
      held = taken.1;
      labels = ap (λ (x : History). map label_of x.entries) after
          ∙ map-append label_of h.entries (entry_for h.made l d ∷ []);
      made = ap (λ (x : History). x.made) after;
    }

-- ---- entries in turn

pub record Then (r : Rules) (o : Option State) (f : State → Option State) (s : State) : Type 0 where
  pub mid : State
  pub first : o ≡ Some mid
  pub rest : f mid ≡ Some s

pub then_by : (r : Rules) (o : Option State) (f : State → Option State) (s : State) → and_then o f ≡ Some s → Then r o f s
then_by r None f s e = cc
then_by r (Some t) f s e = record { mid = t; first = refl; rest = e }

pub same_state : (s t : State) → Some s ≡ Some t → s ≡ t
same_state s t e = ap (λ o. unwrap_or o s) e

abbrev at_state : Rules → State → Entry → Transition
at_state r s e = record { entry = e; footprint = (step_at r s (label_of e)).footprint }

-- the transitions of entries, and of one more
pub one_more : (r : Rules) (from s : State) (es : List Entry) (e : Entry) → replay_from r from (map label_of es) ≡ Some s
    → with_footprints (es ++ e ∷ []) (steps_from r from (map label_of (es ++ e ∷ [])))
    ≡ with_footprints es (steps_from r from (map label_of es)) ++ at_state r s e ∷ []
one_more r from s [] e h = ap (λ t. at_state r t e ∷ []) (same_state from s h)
one_more r from s (x ∷ xs) e h =
    let f : State → Option State = λ t. replay_from r t (map label_of xs) in
    let y : Then r (next_state r from (label_of x)) f s =
    then_by r (next_state r from (label_of x)) f s h in
    let all : Option State → List Transition =
    λ o. with_footprints (xs ++ e ∷ []) (steps_then o (λ t. steps_from r t (map label_of (xs ++ e ∷ [])))) in
    let most : Option State → List Transition =
    λ o. with_footprints xs (steps_then o (λ t. steps_from r t (map label_of xs))) in
    let rest : all (next_state r from (label_of x)) ≡ most (next_state r from (label_of x)) ++ at_state r s e ∷ [] =
    ap all y.first ∙ one_more r y.mid s xs e y.rest
    ∙ sym (ap (λ o. most o ++ at_state r s e ∷ []) y.first) in
    ap (λ l. at_state r from x ∷ l) rest

-- where entries can be made in turn, so can each behind those before it
next_made : (r : Rules) (from s last : State) (es : List Entry) (e : Entry) (rest : List Entry)
    → replay_from r from (map label_of es) ≡ Some s → replay_from r from (map label_of (es ++ e ∷ rest)) ≡ Some last
    → (t : State) × (next_state r s (label_of e) ≡ Some t)
next_made r from s last [] e rest h k =
    let y = then_by r (next_state r from (label_of e)) (λ t. replay_from r t (map label_of rest)) last k in
    (y.mid, ap (λ t. next_state r t (label_of e)) (sym (same_state from s h)) ∙ y.first)
next_made r from s last (x ∷ xs) e rest h k =
    let y = then_by r (next_state r from (label_of x)) (λ t. replay_from r t (map label_of xs)) s h in
    let all : replay_from r y.mid (map label_of (xs ++ e ∷ rest)) ≡ Some last =
    sym (ap (λ o. and_then o (λ t. replay_from r t (map label_of (xs ++ e ∷ rest)))) y.first) ∙ k in
    next_made r y.mid s last xs e rest y.rest all

pub replays_to : (r : Rules) (from : State) (ks : List UndoRecord) (now : State) → ReplaysTo r from ks now
    → replay_from r from (map label_of (entries_of ks)) ≡ Some now
replays_to r from [] now h = ap Some h
replays_to r from (k ∷ ks) now h =
    ap (λ o. and_then o (λ t. replay_from r t (map label_of (entries_of ks)))) h.1 ∙ replays_to r h.0 ks now h.3

-- the state of a history that was made again is the replay of the entries
pub state_is : (program : Raw) (r : Rules) (h : kept.History) (done : List Entry) (steps : List Traced)
    → IsRemade program r h done steps
    → replay r (map label_of done) ≡ Some (past_in h).state
state_is program r h done steps is =
    ap (λ ls. replay r ls) (sym is.labels) ∙ replays_to r r.start (past_in h).records (past_in h).state
    is.held.past.replays

pub can_be_made : (program : Raw) (r : Rules) (h : kept.History) (done : List Entry) (steps : List Traced) (e : Entry)
    (rest : List Entry) (last : State) → IsRemade program r h done steps
    → replay r (map label_of (done ++ e ∷ rest)) ≡ Some last → CanBeMade r h (label_of e)
can_be_made program r h done steps e rest last is k =
    next_made r r.start (past_in h).state last done e rest (state_is program r h done steps is) k

-- ---- by an index

pub split_at : (es : List Entry) (i : ℕ) (e : Entry) → i < length es → e ≡ get_or es i e
    → es ≡ take i es ++ e ∷ drop (suc i) es
split_at es i e less is =
    sym (take-append-drop i es) ∙ ap (λ l. take i es ++ l) (drop-cons es i e less)
    ∙ ap (λ x. take i es ++ x ∷ drop (suc i) es) (sym is)

pub taken_more : (es : List Entry) (i : ℕ) (e : Entry) → i < length es → e ≡ get_or es i e
    → take (i + 1) es ≡ take i es ++ e ∷ []
taken_more es i e less is = take_more es i e less ∙ ap (λ x. take i es ++ x ∷ []) (sym is)

-- ---- what the machine keeps of a step's footprint

nat_self : (x : ℕ) → nat_eq x x ≡ true
nat_self x = (Decides-eqb x x).1 refl

nat_below : (x y : ℕ) → x < y → nat_eq x y ≡ false
nat_below x y h = go (nat_eq x y) refl
  where
    go : (b : Bool) → nat_eq x y ≡ b → b ≡ false
    go false e = refl
    go true e = absurd (omega (arith, h, (Decides-eqb x y).0 e))

rises_below : (low high : ℕ) (done : List Entry) (e : Entry) (rest : List Entry) → Rise low (done ++ e ∷ rest) high
    → low < e.serial
rises_below low high [] e rest h = h.0
rises_below low high (x ∷ xs) e rest h =
    let more : x.serial < e.serial = rises_below x.serial high xs e rest h.1 in omega (arith, h.0, more)

-- an entry stands where those before it lead to
stands_there : (r : Rules) (from s : State) (low high : ℕ) (done : List Entry) (e : Entry) (rest : List Entry)
    → replay_from r from (map label_of done) ≡ Some s → Rise low (done ++ e ∷ rest) high
    → standing_from r from e.serial (done ++ e ∷ rest) ≡ Some (stands e s)
stands_there r from s low high [] e rest h rises =
    ap (λ b. cond b (Some (stands e from))
    (standing_from r (state_after_step r from (label_of e)) e.serial rest)) (nat_self e.serial)
    ∙ ap (λ t. Some (stands e t)) (same_state from s h)
stands_there r from s low high (x ∷ xs) e rest h rises =
    let f : State → Option State = λ t. replay_from r t (map label_of xs) in
    let y : Then r (next_state r from (label_of x)) f s = then_by r (next_state r from (label_of x)) f s h in
    ap (λ b. cond b (Some (stands x from))
    (standing_from r (state_after_step r from (label_of x)) e.serial (xs ++ e ∷ rest)))
    (nat_below x.serial e.serial (rises_below x.serial high xs e rest rises.1))
    ∙ ap (λ o. standing_from r (unwrap_or o from) e.serial (xs ++ e ∷ rest)) y.first
    ∙ stands_there r y.mid s x.serial high xs e rest y.rest rises.1

-- what a machine keeps of an entry's footprint is what its step touches where those before it were made again
pub touched_is : (m : MachineView) (h : kept.History) (done : List Entry) (steps : List Traced) (e : Entry)
    (rest : List Entry) → m.history.entries ≡ done ++ e ∷ rest → Rise 0 m.history.entries m.history.made
    → IsRemade m.program (rules_for m) h done steps
    → footprint_in m e.serial ≡ Some (footprint_for (rules_for m) h (label_of e))
touched_is m h done steps e rest split rises is =
    let r : Rules = rules_for m in
    ap (λ es. option_map (footprint_of r) (standing_from r r.start e.serial es)) split
    ∙ ap (option_map (footprint_of r))
    (stands_there r r.start (past_in h).state 0 m.history.made done e rest (state_is m.program r h done steps is)
    (subst (λ es. Rise 0 es m.history.made) split rises))
