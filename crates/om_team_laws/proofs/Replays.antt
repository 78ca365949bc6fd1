-- What each step keeps is true of every state of a run where it is true of the start.
use Rattle.std.proofs.Common.{◌≡◌, refl, subst, List, [], ◌∷◌, Option, None, Some}
use Rattle.om_state.specs.declared.step.Label.{Label}
use Rattle.om_state.specs.Rules.{Rules, and_then, next_state, replay_from}
use Rattle.om_state.specs.State.{State}

module _ (r : Rules) (Q : State → Type 0)
    (step : (s t : State) (l : Label) → Q s → next_state r s l ≡ Some t → Q t) where
  then_keeps : (o : Option State) (f : State → Option State) (t : State)
      → ((u : State) → o ≡ Some u → f u ≡ Some t → Q t) → and_then o f ≡ Some t → Q t
  then_keeps None f t h e = cc
  then_keeps (Some u) f t h e = h u refl e

  pub rest_keeps : (ls : List Label) (s t : State) → Q s → replay_from r s ls ≡ Some t → Q t
  rest_keeps [] s t h e = let same : s ≡ t = cc in subst Q same h
  rest_keeps (l ∷ ls) s t h e =
      then_keeps (next_state r s l) (λ u. replay_from r u ls) t (λ u is left. rest_keeps ls u t (step s u l h is) left) e
