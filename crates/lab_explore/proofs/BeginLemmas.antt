-- A search that begins: it has stored the start, and looked at nothing.
use Rattle.std.proofs.Common.{◌≡◌, refl, sym, ◌∙◌, ap, subst, ℕ, Bool, true, false, List, [], ◌∷◌, ◌++◌, map, arith}
use Rattle.std.proofs.Common.{◌≤◌, ◌+◌, length}
use Rattle.std.proofs.Common.{⊎_elim, ◌⊎◌, inl, inr}
use Rattle.std.specs.Prelude.{All, Contains}
use Rattle.std.proofs.lemmas.List.Elements.{All-nil, All-cons, Contains-push_cases}
use Rattle.om_code.specs.declared.raw.Raw.{Raw}
use Rattle.om_state.specs.Rules.{Rules}
use Rattle.om_state.specs.State.{State}
use Rattle.om_task.specs.Rules.{rules_of}
use Rattle.om_undo.specs.Machines.{MachineView, state_in, at_start}
use Rattle.lab_explore_closed.specs.Lists.{AllDifferent}
use Rattle.lab_explore_closed.specs.Runs.{IsReached}
use Rattle.lab_explore_notes.specs.Notes.{AreSound, IsOnWay}
use Rattle.lab_explore_states.specs.Sets.{StatesView, StandsAt, Inserts, at_the_start, seen}
use Rattle.lab_explore.specs.declared.search.Search.{Search}
use Rattle.lab_explore.specs.Acts.{act_of, Stands}
use Rattle.lab_explore.specs.Searches.{acts_of, HasArrived}

module _ (program : Raw) (workers : ℕ) where
  -- a search that begins

  pub begun : (x : Search) (s : StatesView) (added : Bool) → x.machine ≡ at_start program workers
      → s ≡ at_the_start program workers → Inserts added s (seen x.stored) → x.todos ≡ []
      → ((p : Raw) (n : ℕ) → AreSound p n x.notes) → x.steps ≡ 0 → x.goes_round ≡ false
      → HasArrived program workers (acts_of x) x
  begun x s false m is inserts none sound steps round =
      let at : Contains [] (rules_of program workers).start =
      subst (λ (t : StatesView). Contains t.states t.at) is inserts.0 in
      absurd (omega (arith, at.1))
  begun x s true m is inserts none sound steps round =
      let r : Rules = rules_of program workers in
      let stored : seen x.stored ≡ record (at_the_start program workers) { states = r.start ∷ [] } =
      inserts.1 ∙ ap (λ (t : StatesView). record t { states = t.states ++ t.at ∷ [] }) is in
      let leads : IsOnWay (at_start program workers) = record { own = tt; replayed = refl } in
      let states : (seen x.stored).states ≡ r.start ∷ [] = ap (λ (t : StatesView). t.states) stored in
      record {
        safe = record {
          sound = sound program workers;
          reached = subst (λ ss. All (IsReached r workers) ss) (sym states)
              (All-cons (IsReached r workers) r.start [] (record { labels = []; leads = leads })
              (All-nil (IsReached r workers)));
          different = subst (λ (ss : List State). AllDifferent ss) (sym states)
              ((λ at. absurd (omega (arith, at.1))), tt);
          begun = subst (λ (ss : List State). 1 ≤ length ss) (sym states) (omega arith);
          stepped = subst (λ (ss : List State). length ss ≤ x.steps + 1) (sym states) (omega arith);
          round = λ is. absurd (not_both (sym round ∙ is));
        };
        way = record {
          program_is = ap (λ (n : MachineView). n.program) m;
          workers_are = ap (λ (n : MachineView). n.workers) m;
          steps_are = steps ∙ sym (ap (λ (n : MachineView). n.history.made) m);
          latest = [];
          entries = ap (λ (n : MachineView). n.history.entries) m;
          leads = subst IsOnWay (sym m) leads;
          stands_at = subst (λ n. StandsAt n (seen x.stored)) (sym m) (subst (λ t. StandsAt (at_start program
              workers) t)
              (sym stored) (record { program = refl; workers = refl; state = refl }));
          past = ap (λ (t : StatesView). t.past) stored;
          stands = subst (λ todos. Stands r workers (seen x.stored).states (map act_of todos) []) (sym none) refl;
        };
        start = subst (λ ss. Contains ss r.start) (sym states) (0, omega arith, refl);
        here = subst (λ (n : MachineView). Contains (seen x.stored).states (state_in n)) (sym m)
            (subst (λ ss. Contains ss r.start) (sym states) (0, omega arith, refl));
        closed = λ t u l at own step. inr (only t at states);
        noted = λ t at. inr (only t at states);
      }
    where
      not_both : false ≡ true → ⊥
      not_both h = cc

      one : (start t : State) → Contains (start ∷ []) t → start ≡ t
      one start t at = ⊎_elim (λ no. absurd (omega (arith, no.1))) (λ is. is) (Contains-push_cases [] start t at)

      only : (t : State) → Contains (seen x.stored).states t → (seen x.stored).states ≡ (rules_of program
          workers).start ∷ []
          → state_in x.machine ≡ t
      only t at states =
          ap (λ (n : MachineView). state_in n) m
          ∙ one (rules_of program workers).start t (subst (λ ss. Contains ss t) states at)
