-- A kind of state that no step leaves is left by no run: matter of proofs, for crates that explore. A law cannot speak
-- of every kind of state, so it speaks of lists.
use Rattle.std.proofs.Common.{◌≡◌, refl, sym, ◌∙◌, subst, ℕ, ◌<◌, Option, None, Some, List, [], ◌∷◌, ◌++◌}
use Rattle.om_state.specs.declared.step.Label.{Label}
use Rattle.om_state.specs.Rules.{Rules, and_then, next_state, replay_from}
use Rattle.om_state.specs.State.{State}
use Rattle.lab_explore_closed.specs.Runs.{AreOf}

module _ (r : Rules) (workers : ℕ) (Stored : State → Type 0)
    (all : (s t : State) (l : Label) → Stored s → l.worker < workers → next_state r s l ≡ Some t → Stored t)
  where
    pub stays : (ls : List Label) (s t : State) → Stored s → AreOf workers ls → replay_from r s ls ≡ Some t → Stored t
    stays [] s t from own h = let same : s ≡ t = cc in subst Stored same from
    stays (l ∷ ls) s t from own h = go (next_state r s l) refl (λ m there. stays ls m t there own.1) h
      where
        go : (o : Option State) → next_state r s l ≡ o
            → ((m : State) → Stored m → replay_from r m ls ≡ Some t → Stored t)
            → and_then o (λ m. replay_from r m ls) ≡ Some t → Stored t
        go None e rest g = cc
        go (Some m) e rest g = rest m (all s m l from own.0 e) g

-- one step more

pub one_more : (workers : ℕ) (ls : List Label) (l : Label) → AreOf workers ls → l.worker < workers
    → AreOf workers (ls ++ l ∷ [])
one_more workers [] l own is = (is, tt)
one_more workers (m ∷ ms) l own is = (own.0, one_more workers ms l own.1 is)

pub one_less : (workers : ℕ) (ls : List Label) (l : Label) → AreOf workers (ls ++ l ∷ []) → AreOf workers ls
one_less workers [] l own = tt
one_less workers (m ∷ ms) l own = (own.0, one_less workers ms l own.1)

pub replay_more : (r : Rules) (ls : List Label) (l : Label) (s t u : State) → replay_from r s ls ≡ Some t
    → next_state r t l ≡ Some u → replay_from r s (ls ++ l ∷ []) ≡ Some u
replay_more r [] l s t u h next =
    let same : s ≡ t = cc in subst (λ v. and_then (next_state r v l) (λ m. Some m) ≡ Some u) (sym same)
    (subst (λ o. and_then o (λ m. Some m) ≡ Some u) (sym next) refl)
replay_more r (m ∷ ms) l s t u h next = go (next_state r s m) (λ v g. replay_more r ms l v t u g next) h
  where
    go : (o : Option State) → ((v : State) → replay_from r v ms ≡ Some t → replay_from r v (ms ++ l ∷ []) ≡ Some u)
        → and_then o (λ v. replay_from r v ms) ≡ Some t → and_then o (λ v. replay_from r v (ms ++ l ∷ [])) ≡ Some u
    go None rest g = cc
    go (Some v) rest g = rest v g
