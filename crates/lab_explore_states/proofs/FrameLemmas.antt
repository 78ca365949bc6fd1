-- What a step may change.
use Rattle.std.proofs.Common.{◌≡◌, refl, ◌∙◌, ap, subst, Bool, true, false, cond, Option, None, Some, List, [], ◌∷◌}
use Rattle.std.proofs.Common.{◌++◌, unwrap_or}
use Rattle.std.specs.Prelude.{map}
use Rattle.om_foot.specs.declared.object.Obj.{Obj}
use Rattle.om_foot.specs.declared.footprint.Access.{Access}
use Rattle.om_foot.specs.declared.footprint.Mode.{Mode}
use Rattle.om_foot.specs.declared.footprint.Mode.TheVariants as mode
use Rattle.om_foot.specs.Footprint.{obj_eq}
use Rattle.om_state.specs.declared.step.Entry.{Entry}
use Rattle.om_state.specs.declared.step.Label.{Label}
use Rattle.om_state.specs.declared.step.Outcome.{Outcome}
use Rattle.om_state.specs.declared.step.Outcome.TheVariants as outcome
use Rattle.om_state.specs.declared.step.Update.{Update}
use Rattle.om_state.specs.declared.value.Val.{Val}
use Rattle.om_state.specs.Rules.{Rules, step_at, next_state, state_after_outcome, and_then, replay, replay_from}
use Rattle.om_state.specs.State.{State, state_after, updated, value_after}
use Rattle.om_undo_history.specs.Runs.{History, label_of, entry_for, state_of_entries, history_with}
use Rattle.om_undo.specs.Machines.{MachineView, rules_for, state_in, with_step}
use Rattle.om_undo.specs.PlannedSteps.{if_updates, touched_if_made}
use Rattle.lab_explore_states.specs.Touched.{changes, is_changed}

kept_value : (m : Mode) (u : Update) (v : Val) (e rest : Bool) → cond (changes m) (cond e true rest) rest ≡ false
    → (cond e (value_after m u v) v ≡ v) × (rest ≡ false)
kept_value mode.Read u v true rest h = (refl, h)
kept_value mode.Read u v false rest h = (refl, h)
kept_value mode.Write u v true rest h = cc
kept_value mode.Write u v false rest h = (refl, h)
kept_value mode.Add u v true rest h = cc
kept_value mode.Add u v false rest h = (refl, h)

-- the updates of a footprint change what its accesses may change
updates_keep : (accesses : List Access) (us : List Update) (s : State) (q : Obj) → is_changed accesses q ≡ false
    → updated accesses us s q ≡ s q
updates_keep [] us s q h = refl
updates_keep (a ∷ rest) [] s q h = refl
updates_keep (a ∷ rest) (u ∷ us) s q h =
    let kept = kept_value a.mode u (s q) (obj_eq a.object q) (is_changed rest q) h in
    updates_keep rest us (state_after a u s) q kept.1 ∙ kept.0

-- one more step of a replay
replay_more : (r : Rules) (s : State) (ls : List Label) (l : Label)
    → replay_from r s (ls ++ l ∷ []) ≡ and_then (replay_from r s ls) (λ t. next_state r t l)
replay_more r s [] l = go (next_state r s l)
  where
    go : (o : Option State) → and_then o (λ t. Some t) ≡ o
    go None = refl
    go (Some t) = refl
replay_more r s (k ∷ ls) l = go (next_state r s k) (λ t. replay_more r t ls l)
  where
    go : (o : Option State)
        → ((t : State) → replay_from r t (ls ++ l ∷ []) ≡ and_then (replay_from r t ls) (λ u. next_state r u l))
        → and_then o (λ t. replay_from r t (ls ++ l ∷ []))
        ≡ and_then (and_then o (λ t. replay_from r t ls)) (λ u. next_state r u l)
    go None rest = refl
    go (Some t) rest = rest t

labels_more : (es : List Entry) (e : Entry) → map label_of (es ++ e ∷ []) ≡ map label_of es ++ label_of e ∷ []
labels_more [] e = refl
labels_more (x ∷ xs) e = ap (λ ls. label_of x ∷ ls) (labels_more xs e)

-- behind a step that is updates
behind_updates : (r : Rules) (l : Label) (o : Option State) (us : List Update) (q : Obj)
    → (step_at r (unwrap_or o r.start) l).outcome ≡ outcome.Updates us
    → is_changed (step_at r (unwrap_or o r.start) l).footprint q ≡ false
    → unwrap_or (and_then o (λ t. next_state r t l)) r.start q ≡ unwrap_or o r.start q
behind_updates r l None us q e h = refl
behind_updates r l (Some s) us q e h =
    ap (λ x. unwrap_or (state_after_outcome (step_at r s l).footprint x s) r.start q) e
    ∙ updates_keep (step_at r s l).footprint us s q h

module _ (r : Rules) (h : History) (l : Label) (all : List Access) (q : Obj) (clear : is_changed all q ≡ false) where
  by_outcome : (x : Outcome) → (step_at r (state_of_entries r h.entries) l).outcome ≡ x
      → Some all ≡ if_updates (step_at r (state_of_entries r h.entries) l).footprint x
      → state_of_entries r (history_with h (entry_for h.made l (step_at r (state_of_entries r h.entries) l)) x).entries q
      ≡ state_of_entries r h.entries q
  by_outcome (outcome.Updates us) e made =
      let is : all ≡ (step_at r (state_of_entries r h.entries) l).footprint = cc in
      let here : is_changed (step_at r (state_of_entries r h.entries) l).footprint q ≡ false =
      subst (λ xs. is_changed xs q ≡ false) is clear in
      ap (λ ls. unwrap_or (replay r ls) r.start q)
      (labels_more h.entries (entry_for h.made l (step_at r (state_of_entries r h.entries) l)))
      ∙ ap (λ o. unwrap_or o r.start q) (replay_more r r.start (map label_of h.entries) l)
      ∙ behind_updates r l (replay r (map label_of h.entries)) us q e here
  by_outcome (outcome.Blocked b) e made = refl
  by_outcome outcome.Ended e made = refl

-- a step changes what its accesses may change
pub step_keeps : (m : MachineView) (l : Label) (all : List Access) (q : Obj) → Some all ≡ touched_if_made m l
    → is_changed all q ≡ false → state_in (with_step m l) q ≡ state_in m q
step_keeps m l all q made clear = by_outcome (rules_for m) m.history l all q clear
    (step_at (rules_for m) (state_in m) l).outcome refl made
