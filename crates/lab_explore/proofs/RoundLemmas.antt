-- A machine that comes to a state where it was before on its way.
use Rattle.std.proofs.Common.{◌≡◌, ap, subst, ◌<◌, ℕ, Option, None, Some, List, [], ◌∷◌, ◌++◌, map}
use Rattle.std.proofs.Common.{arith, ⊎_elim, ◌⊎◌, inl, inr}
use Rattle.std.specs.Prelude.{Contains}
use Rattle.std.proofs.lemmas.List.{map-append}
use Rattle.std.proofs.lemmas.List.Elements.{Contains-append_cases, Contains-push_cases}
use Rattle.om_state.specs.declared.step.Entry.{Entry}
use Rattle.om_state.specs.declared.step.Label.{Label}
use Rattle.om_state.specs.Rules.{Rules, and_then, next_state, replay, replay_from}
use Rattle.om_state.specs.State.{State}
use Rattle.om_undo_history.specs.Runs.{label_of, state_of_entries}
use Rattle.lab_explore_closed.specs.Closed.{one_more, replay_more}
use Rattle.lab_explore_closed.specs.Runs.{Leads, LeadsOn, GoesRound}
use Rattle.lab_explore.specs.Acts.{in_order, state_by, past_by}
use Rattle.lab_explore.proofs.WayLemmas.{leads_back, last_own}

-- the last step of a run

last_step : (r : Rules) (ls : List Label) (l : Label) (s t u : State) → replay_from r s ls ≡ Some t
    → replay_from r s (ls ++ l ∷ []) ≡ Some u → next_state r t l ≡ Some u
last_step r [] l s t u h g =
    let same : s ≡ t = cc in subst (λ v. next_state r v l ≡ Some u) same (go (next_state r s l) g)
  where
    go : (o : Option State) → and_then o (λ v. Some v) ≡ Some u → o ≡ Some u
    go None k = cc
    go (Some v) k = k
last_step r (m ∷ ms) l s t u h g = go (next_state r s m) (λ v k j. last_step r ms l v t u k j) h g
  where
    go : (o : Option State)
        → ((v : State) → replay_from r v ms ≡ Some t → replay_from r v (ms ++ l ∷ []) ≡ Some u
        → next_state r t l ≡ Some u)
        → and_then o (λ v. replay_from r v ms) ≡ Some t → and_then o (λ v. replay_from r v (ms ++ l ∷ [])) ≡ Some u
        → next_state r t l ≡ Some u
    go None rest k j = cc
    go (Some v) rest k j = rest v k j

last_made : (r : Rules) (workers : ℕ) (es : List Entry) (e : Entry) (u : State)
    → Leads r workers (map label_of (es ++ e ∷ [])) u
    → next_state r (state_of_entries r es) (label_of e) ≡ Some u
last_made r workers es e u h =
    last_step r (map label_of es) (label_of e) r.start (state_of_entries r es) u
    (leads_back r workers es e u h).replayed
    (subst (λ ls. replay r ls ≡ Some u) (map-append label_of es (e ∷ [])) h.replayed)

-- from where it was before, steps lead on

not_none : (ls : List Label) (l : Label) → ls ++ l ∷ [] ≡ [] → ⊥
not_none [] l h = cc
not_none (m ∷ ms) l h = cc

cases : (x : State) (xs : List State) (y : State) → Contains (x ∷ xs) y → (x ≡ y) ⊎ Contains xs y
cases x xs y h = ⊎_elim
    (λ one. ⊎_elim (λ none. absurd (omega (arith, none.1))) (λ is. inl is) (Contains-push_cases [] x y one))
    (λ rest. inr rest) (Contains-append_cases (x ∷ []) xs y h)

module _ (r : Rules) (workers : ℕ) where
  led_on : (latest : List Entry) (s u : State) → Leads r workers (map label_of (in_order latest)) u
      → Contains (past_by r latest) s → LeadsOn r workers s u
  led_on [] s u h at = absurd (omega (arith, at.1))
  led_on (e ∷ latest) s u h at =
      let es : List Entry = in_order latest in
      let led : Leads r workers (map label_of es) (state_by r latest) = leads_back r workers es e u h in
      let own : e.worker < workers = last_own workers es e h.own in
      let step : next_state r (state_by r latest) (label_of e) ≡ Some u = last_made r workers es e u h in
      ⊎_elim
      (λ is. subst (λ v. LeadsOn r workers v u) is (record {
        before = map label_of es;
        behind = label_of e ∷ [];
        leads = led;
        own = (own, tt);
        some = not_none [] (label_of e);
        replayed = ap (λ o. and_then o (λ v. Some v)) step;
      }))
      (λ rest.
      let on : LeadsOn r workers s (state_by r latest) = led_on latest s (state_by r latest) led rest in record {
        before = on.before;
        behind = on.behind ++ label_of e ∷ [];
        leads = on.leads;
        own = one_more workers on.behind (label_of e) on.own own;
        some = not_none on.behind (label_of e);
        replayed = replay_more r on.behind (label_of e) s (state_by r latest) u on.replayed step;
      })
      (cases (state_by r latest) (past_by r latest) s at)

  -- to the same state: it has gone round

  pub goes_round : (latest : List Entry) (u : State) → Leads r workers (map label_of (in_order latest)) u
      → Contains (past_by r latest) u → GoesRound r workers
  goes_round latest u h at = (u, led_on latest u u h at)
