-- Two steps that don't conflict can be exchanged.
use Rattle.std.proofs.Common.{◌≡◌, refl, sym, ◌∙◌, ap, subst, Some, List, [], ◌∷◌}
use Rattle.om_foot.specs.declared.footprint.Mode.{Mode}
use Rattle.om_foot.specs.declared.footprint.Access.{Access}
use Rattle.om_foot.specs.Apart.{AllApart, AllApart-flip, all_apart}
use Rattle.om_state.specs.declared.value.Val.{Val}
use Rattle.om_state.specs.declared.step.Update.{Update}
use Rattle.om_state.specs.declared.step.Outcome.{Outcome}
use Rattle.om_state.specs.declared.step.Label.{Label}
use Rattle.om_state.specs.declared.step.Step.{Step}
use Rattle.om_state.specs.State.{State, updated}
use Rattle.om_state.specs.Rules.{Rules, step_at, state_after_outcome, next_state}
use Rattle.om_undo_history.specs.Laws.{IfRead, AgreeAt, Apart, Exchanged}
use Rattle.om_undo_history.proofs.Frame.{step_at-agree, updated-agree, updated-updated}
use Rattle.om_foot.specs.declared.footprint.Mode.TheVariants as mode
use Rattle.om_state.specs.declared.step.Outcome.TheVariants as outcome

-- what a step that was made did
pub record Made (r : Rules) (s : State) (l : Label) (t : State) : Type 0 where
  pub updates : List Update
  pub outcome_is : (step_at r s l).outcome ≡ outcome.Updates updates
  pub state_is : updated (step_at r s l).footprint updates s ≡ t

was_updates : (footprint : List Access) (o : Outcome) (s t : State) → state_after_outcome footprint o s ≡ Some t
    → (us : List Update) × (o ≡ outcome.Updates us) × (updated footprint us s ≡ t)
was_updates footprint (outcome.Updates us) s t h = (us, refl, cc)
was_updates footprint (outcome.Blocked b) s t h = cc
was_updates footprint outcome.Ended s t h = cc

pub made : (r : Rules) (s : State) (l : Label) (t : State) → next_state r s l ≡ Some t → Made r s l t
made r s l t h =
    let was = was_updates (step_at r s l).footprint (step_at r s l).outcome s t h in
    record { updates = was.0; outcome_is = was.1; state_is = was.2 }

IfRead-sym : (m : Mode) (x y : Val) → IfRead m (x ≡ y) → IfRead m (y ≡ x)
IfRead-sym mode.Add x y h = tt
IfRead-sym mode.Read x y h = sym h
IfRead-sym mode.Write x y h = sym h

pub AgreeAt-sym : (footprint : List Access) (s t : State) → AgreeAt footprint s t → AgreeAt footprint t s
AgreeAt-sym [] s t h = tt
AgreeAt-sym (a ∷ rest) s t h = (IfRead-sym a.mode _ _ h.0, AgreeAt-sym rest s t h.1)

-- the exchange, with what the second step did
pub record Swapped (r : Rules) (s : State) (a b : Label) (s1 s2 : State) : Type 0 where
  pub updates : List Update
  pub b_first : next_state r s b ≡ Some (updated (step_at r s1 b).footprint updates s)
  pub a_then : next_state r (updated (step_at r s1 b).footprint updates s) a ≡ Some s2
  pub b_same : step_at r s b ≡ step_at r s1 b
  pub a_same : step_at r (updated (step_at r s1 b).footprint updates s) a ≡ step_at r s a

pub swapped : (r : Rules) (s s1 s2 : State) (a b : Label) → next_state r s a ≡ Some s1 → next_state r s1 b ≡ Some s2
    → Apart (step_at r s a).footprint (step_at r s1 b).footprint → Swapped r s a b s1 s2
swapped r s s1 s2 a b first second apart =
    let was_a : Made r s a s1 = made r s a s1 first in
    let was_b : Made r s1 b s2 = made r s1 b s2 second in
    let fa : List Access = (step_at r s a).footprint in
    let fb : List Access = (step_at r s1 b).footprint in
    let us : List Update = was_a.updates in
    let ws : List Update = was_b.updates in
    let all : AllApart fa fb = all_apart fa fb apart in
    let mid : State = updated fb ws s in
    let same_b : step_at r s b ≡ step_at r s1 b =
    sym (step_at-agree r s1 s b (subst (λ x. AgreeAt fb x s) was_a.state_is (updated-agree fa fb us s all))) in
    let same_a : step_at r mid a ≡ step_at r s a =
    sym (step_at-agree r s mid a (AgreeAt-sym fa mid s (updated-agree fb fa ws s (AllApart-flip fa fb all)))) in
    let to_b : next_state r s b ≡ Some mid = ap (λ (d : Step). state_after_outcome d.footprint d.outcome s) same_b
    ∙ ap (λ o. state_after_outcome fb o s) was_b.outcome_is in
    let to_a : next_state r mid a ≡ Some (updated fa us mid) =
    ap (λ (d : Step). state_after_outcome d.footprint d.outcome mid) same_a
    ∙ ap (λ o. state_after_outcome fa o mid) was_a.outcome_is in
    let end : updated fa us mid ≡ s2 = sym (updated-updated fa fb us ws s all) ∙ ap (updated fb ws) was_a.state_is
    ∙ was_b.state_is in
    record { updates = ws; b_first = to_b; a_then = to_a ∙ ap Some end; b_same = same_b; a_same = same_a }

pub exchanged : (r : Rules) (s s1 s2 : State) (a b : Label) → next_state r s a ≡ Some s1 → next_state r s1 b ≡ Some s2
    → Apart (step_at r s a).footprint (step_at r s1 b).footprint → Exchanged r s a b s1 s2
exchanged r s s1 s2 a b first second apart =
    let x : Swapped r s a b s1 s2 = swapped r s s1 s2 a b first second apart in
    record {
      mid = updated (step_at r s1 b).footprint x.updates s;
      b_first = x.b_first;
      a_then = x.a_then;
      b_same = x.b_same;
      a_same = x.a_same;
    }
