-- Diamonds, and runs with two neighbours exchanged.
use Rattle.std.proofs.Common.{◌≡◌, refl, sym, ◌∙◌, ap, subst, Option, None, Some, List, [], ◌∷◌, ◌++◌}
use Rattle.om_foot.specs.declared.footprint.Access.{Access}
use Rattle.om_foot.specs.Apart.{AllApart, all_apart}
use Rattle.om_state.specs.declared.step.Update.{Update}
use Rattle.om_state.specs.declared.step.Label.{Label}
use Rattle.om_state.specs.declared.step.Step.{Step}
use Rattle.om_state.specs.State.{State, updated}
use Rattle.om_state.specs.Rules.{Rules, step_at, state_after_outcome, next_state, and_then, replay, replay_from}
use Rattle.om_undo_history.specs.Laws.{AgreeAt, Apart}
use Rattle.om_undo_history.specs.Equivalence.{Diamond, Diamonds, Swaps, Untouched, Equivalent, same, exchange, EquivalentRuns}
use Rattle.om_undo_history.proofs.Frame.{step_at-agree, updated-agree}
use Rattle.om_undo_history.proofs.Exchange.{Made, made, AgreeAt-sym, Swapped, swapped}
use Rattle.om_undo_history.proofs.Removal.{then_made, replay-append}

some : {A : Type 0} {x y : A} → Some x ≡ Some y → x ≡ y
some e = cc

pub diamond : Diamonds
diamond r s s1 s2 a b first second apart =
    let was_a : Made r s a s1 = made r s a s1 first in
    let was_b : Made r s b s2 = made r s b s2 second in
    let fa : List Access = (step_at r s a).footprint in
    let fb : List Access = (step_at r s b).footprint in
    let all : AllApart fa fb = all_apart fa fb apart in
    let agree : AgreeAt fb s s1 = AgreeAt-sym fb s1 s
    (subst (λ x. AgreeAt fb x s) was_a.state_is (updated-agree fa fb was_a.updates s all)) in
    let same_b : step_at r s b ≡ step_at r s1 b = step_at-agree r s s1 b agree in
    let last : State = updated fb was_b.updates s1 in
    let to_b : next_state r s1 b ≡ Some last =
    sym (ap (λ (d : Step). state_after_outcome d.footprint d.outcome s1) same_b)
    ∙ ap (λ o. state_after_outcome fb o s1) was_b.outcome_is in
    let apart1 : Apart fa (step_at r s1 b).footprint =
    subst (λ (d : Step). Apart fa d.footprint) same_b apart in
    let x : Swapped r s a b s1 last = swapped r s s1 last a b first to_b apart1 in
    let mid : State = updated (step_at r s1 b).footprint x.updates s in
    let mid_is : mid ≡ s2 = some (sym x.b_first ∙ second) in
    record {
      last = last;
      b_then = to_b;
      a_then = subst (λ m. next_state r m a ≡ Some last) mid_is x.a_then;
      b_same = sym same_b;
      a_same = subst (λ m. step_at r m a ≡ step_at r s a) mid_is x.a_same;
    }

pub swaps : Swaps
swaps r earlier later a b s s1 now start first apart whole =
    let behind : and_then (Some s) (λ t. replay_from r t (a ∷ b ∷ later)) ≡ Some now =
    ap (λ o. and_then o (λ t. replay_from r t (a ∷ b ∷ later))) (sym start)
    ∙ sym (replay-append r r.start earlier (a ∷ b ∷ later)) ∙ whole in
    let from_s1 : replay_from r s1 (b ∷ later) ≡ Some now =
    ap (λ o. and_then o (λ t. replay_from r t (b ∷ later))) (sym first) ∙ behind in
    let next = then_made (next_state r s1 b) (λ t. replay_from r t later) now from_s1 in
    let s2 : State = next.0 in
    let x : Swapped r s a b s1 s2 = swapped r s s1 s2 a b first next.1 apart in
    let mid : State = updated (step_at r s1 b).footprint x.updates s in
    let back : replay_from r s (b ∷ a ∷ later) ≡ Some now =
    ap (λ o. and_then o (λ t. replay_from r t (a ∷ later))) x.b_first
    ∙ ap (λ o. and_then o (λ t. replay_from r t later)) x.a_then ∙ next.2 in
    replay-append r r.start earlier (b ∷ a ∷ later)
    ∙ ap (λ o. and_then o (λ t. replay_from r t (b ∷ a ∷ later))) start ∙ back

pub untouched : Untouched
untouched r s s1 a b first apart =
    let was_a : Made r s a s1 = made r s a s1 first in
    let fa : List Access = (step_at r s a).footprint in
    let fb : List Access = (step_at r s b).footprint in
    let agree : AgreeAt fb s s1 = AgreeAt-sym fb s1 s
    (subst (λ x. AgreeAt fb x s) was_a.state_is (updated-agree fa fb was_a.updates s (all_apart fa fb apart))) in
    sym (step_at-agree r s s1 b agree)

pub equivalent : EquivalentRuns
equivalent r ms ls now (same xs is) whole = subst (λ ys. replay r ys ≡ Some now) is whole
equivalent r ms ls now (exchange xs earlier later a b s s1 is start first apart rest) whole =
    equivalent r ms (earlier ++ b ∷ a ∷ later) now rest
    (swaps r earlier later a b s s1 now start first apart (subst (λ ys. replay r ys ≡ Some now) is whole))
