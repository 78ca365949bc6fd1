-- A search, by what it does next.
use Rattle.std.proofs.Common.{◌≡◌, ◌≢◌, refl, sym, ◌∙◌, ap, subst, ℕ, suc, ◌+◌}
use Rattle.std.proofs.Common.{◌<◌, ◌≤◌, Bool, true, false, Option, None, Some}
use Rattle.std.proofs.Common.{List, [], ◌∷◌, ◌++◌, map, length, arith, ⊎_elim, ◌⊎◌, inl, inr}
use Rattle.std.specs.Prelude.{All, Contains, slice_get, drop}
use Rattle.std.proofs.lemmas.List.{map-append}
use Rattle.std.proofs.lemmas.List.Elements.{All-nil, All-cons, All-push, All-map, All-weaker, All-contains}
use Rattle.std.proofs.lemmas.List.Elements.{Contains-append_left, Contains-push, Contains-push_cases}
use Rattle.om_code.specs.declared.raw.Raw.{Raw}
use Rattle.om_foot.specs.declared.footprint.Access.{Access}
use Rattle.om_state.specs.declared.step.Entry.{Entry}
use Rattle.om_state.specs.declared.step.Label.{Label}
use Rattle.om_state.specs.Rules.{Rules, next_state}
use Rattle.om_state.specs.State.{State}
use Rattle.om_task.specs.Rules.{rules_of}
use Rattle.om_undo.specs.Machines.{MachineView, rules_for, state_in, at_start, step_reply, with_step, with_undo}
use Rattle.om_undo.specs.PlannedSteps.{is_made}
use Rattle.om_undo_history.specs.Runs.{History, label_of, state_of_entries}
use Rattle.lab_explore_closed.specs.Closed.{stays}
use Rattle.lab_explore_closed.specs.declared.found.Limits.{Limits}
use Rattle.lab_explore_closed.specs.declared.found.Met.{Met}
use Rattle.lab_explore_closed.specs.declared.found.Verdict.{Verdict}
use Rattle.lab_explore_closed.specs.declared.found.Verdict.TheVariants as verdict
use Rattle.lab_explore_closed.specs.Endings.{IsMet}
use Rattle.lab_explore_closed.specs.Explored.{AreAllEnds, AreAllFaults, AreAllRaces, ending_of_found}
use Rattle.lab_explore_closed.specs.Explored.{met_of_found, pair_of_found}
use Rattle.lab_explore_closed.specs.Lists.{AllDifferent}
use Rattle.lab_explore_closed.specs.Races.{IsRace}
use Rattle.lab_explore_closed.specs.Runs.{AreOf, Leads, IsReached, IsEnd, GoesRound}
use Rattle.lab_explore_moves.specs.declared.possible.PossibleStep.{PossibleStep}
use Rattle.lab_explore_moves.specs.Possible.{IsPossible, ArePossible, label_of_possible}
use Rattle.lab_explore_notes.specs.declared.notes.Notes as notes
use Rattle.lab_explore_notes.specs.Notes.{AreSound, IsNoted, KeepsAll, IsOnWay}
use Rattle.lab_explore_states.specs.Sets.{WalkView, StatesView, StandsAt, Inserts, GoesBack}
use Rattle.lab_explore_states.specs.Sets.{gone_to, at_the_start, seen}
use Rattle.lab_explore.specs.declared.search.Search.{Search}
use Rattle.lab_explore.specs.declared.todo.Todo.{Todo}
use Rattle.lab_explore.specs.Acts.{Act, Try, Back, act_of, tries, in_order}
use Rattle.lab_explore.specs.Acts.{state_by, past_by, Stands, AllLead, AllLeadBut}
use Rattle.lab_explore.specs.Searches.{acts_of, IsSafe, IsUnderWay, IsSearch, HasArrived, Answers, Arrives}
use Rattle.lab_explore.proofs.ActLemmas.{stands_on, stands_more, not_made, made_again}
use Rattle.lab_explore.proofs.ActLemmas.{made_new, all_tried, nothing_left}
use Rattle.lab_explore.proofs.RoundLemmas.{goes_round}
use Rattle.lab_explore.proofs.WayLemmas.{undone, IsOneMore, one_more_made, none_made, IsFurther}
use Rattle.lab_explore.proofs.WayLemmas.{leads_on, leads_back, last_own}

-- lists whose items differ

different_push : (xs : List State) (x : State) → AllDifferent xs → ¬ Contains xs x → AllDifferent (xs ++ x ∷ [])
different_push [] x h not = ((λ at. absurd (omega (arith, at.1))), tt)
different_push (y ∷ ys) x h not = (
  (λ at. ⊎_elim (λ old. h.0 old) (λ is. not (subst (λ z. Contains (y ∷ ys) z) (sym is) (0, omega arith, refl)))
      (Contains-push_cases ys x y at)),
  different_push ys x h.1 (λ at. not (suc at.0, omega (arith, at.1), at.2)),
)

-- how many states and steps there are

one_longer : (xs : List State) (x : State) → length (xs ++ x ∷ []) ≡ length xs + 1
one_longer [] x = omega arith
one_longer (y ∷ ys) x = let rest = one_longer ys x in omega (arith, rest)

step_more : (states steps more : ℕ) → states ≤ steps + 1 → more ≡ steps + 1 → states ≤ more + 1
step_more states steps more h is = omega (arith, h, is)

state_more : (states steps more_states more_steps : ℕ) → states ≤ steps + 1 → more_states ≡ states + 1
    → more_steps ≡ steps + 1 → (1 ≤ more_states) × (more_states ≤ more_steps + 1)
state_more states steps more_states more_steps h is also = (omega (arith, is), omega (arith, h, is, also))

-- where the machine stands

module _ (program : Raw) (workers : ℕ) where
  abbrev here_is : (acts : List Act) (x : Search) (way : IsUnderWay program workers acts x)
      → state_in x.machine ≡ state_by (rules_of program workers) way.latest
  here_is acts x way =
      λ i. state_of_entries (rules_of (way.program_is i) (way.workers_are i)) (way.entries i)

  rules_are : (acts : List Act) (x : Search) → IsUnderWay program workers acts x
      → rules_for x.machine ≡ rules_of program workers
  rules_are acts x way = λ i. rules_of (way.program_is i) (way.workers_are i)

  -- what stays where only notes and acts change

  abbrev way_with : (acts new : List Act) (x y : Search) (way : IsUnderWay program workers acts x) → y.machine ≡
      x.machine
      → y.stored ≡ x.stored → y.steps ≡ x.steps
      → Stands (rules_of program workers) workers (seen x.stored).states new way.latest
      → IsUnderWay program workers new y
  way_with acts new x y way m s steps stands = record {
    program_is = ap (λ (n : MachineView). n.program) m ∙ way.program_is;
    workers_are = ap (λ (n : MachineView). n.workers) m ∙ way.workers_are;
    steps_are = steps ∙ way.steps_are ∙ sym (ap (λ (n : MachineView). n.history.made) m);
    latest = way.latest;
    entries = ap (λ (n : MachineView). n.history.entries) m ∙ way.entries;
    leads = subst IsOnWay (sym m) way.leads;
    stands_at = subst (λ n. StandsAt n (seen y.stored)) (sym m) (subst (λ t. StandsAt x.machine (seen t)) (sym s)
        way.stands_at);
    past = ap (λ (t : WalkView). (seen t).past) s ∙ way.past;
    stands = subst (λ (t : WalkView). Stands (rules_of program workers) workers (seen t).states new way.latest) (sym s)
        stands;
  }

  safe_with : (x y : Search) → AreSound program workers y.notes → y.stored ≡ x.stored → y.steps ≡ x.steps
      → y.goes_round ≡ x.goes_round → IsSafe program workers x → IsSafe program workers y
  safe_with x y sound s steps round safe = record {
    sound = sound;
    reached = subst (λ (t : WalkView). All (IsReached (rules_of program workers) workers) (seen t).states) (sym s)
        safe.reached;
    different = subst (λ (t : WalkView). AllDifferent (seen t).states) (sym s) safe.different;
    begun = subst (λ (t : WalkView). 1 ≤ length (seen t).states) (sym s) safe.begun;
    stepped = subst (λ n. length (seen y.stored).states ≤ n + 1) (sym steps)
        (subst (λ (t : WalkView). length (seen t).states ≤ x.steps + 1) (sym s) safe.stepped);
    round = λ is. safe.round (sym round ∙ is);
  }

  keeps_noted : (old new : notes.Notes) (s : State) → KeepsAll old new → IsNoted program workers old s
      → IsNoted program workers new s
  keeps_noted old new s keeps noted = record {
    end = λ end. keeps.ends _ (noted.end end);
    faults = λ m own met. keeps.faults m (noted.faults m own met);
    races = λ a b p q own others race. keeps.races _ (noted.races a b p q own others race);
  }

  -- a search that has looked around

  possible_own : (m : MachineView) (ps : List PossibleStep) → All (IsPossible m) ps → (l : Label)
      → Contains (map label_of_possible ps) l → l.worker < m.workers
  possible_own m ps all l at =
      All-contains (λ (k : Label). k.worker < m.workers) (map label_of_possible ps) l
      (All-map (λ (k : Label). k.worker < m.workers) label_of_possible ps
      (All-weaker (IsPossible m) (λ (p : PossibleStep). p.label.worker < m.workers) (λ p h. h.worker) ps all)) at

  pub looked_around : (acts : List Act) (x y : Search) (ps : List PossibleStep) → HasArrived program workers acts x
      → ArePossible x.machine ps → y.machine ≡ x.machine → y.stored ≡ x.stored → y.steps ≡ x.steps
      → y.goes_round ≡ x.goes_round → AreSound program workers y.notes → KeepsAll x.notes y.notes
      → IsNoted program workers y.notes (state_in x.machine)
      → IsSearch program workers (tries (map label_of_possible ps) acts) y
  looked_around acts x y ps h possible m s steps round sound keeps noted =
      let r : Rules = rules_of program workers in
      let ls : List Label = map label_of_possible ps in
      let here : state_in x.machine ≡ state_by r h.way.latest = here_is acts x h.way in
      record {
        safe = safe_with x y sound s steps round h.safe;
        way = way_with acts (tries ls acts) x y h.way m s steps
            (stands_on r workers (seen x.stored).states ls acts h.way.latest
            (λ l at. subst (λ n. l.worker < n) h.way.workers_are (possible_own x.machine ps possible.each l at))
            (subst (λ t. Contains (seen x.stored).states t) here h.here) h.way.stands);
        start = subst (λ (t : WalkView). Contains (seen t).states r.start) (sym s) h.start;
        closed = subst (λ (t : WalkView). AllLead r workers (seen t).states (tries ls acts) h.way.latest) (sym s)
            (all_tried r workers (seen x.stored).states acts h.way.latest (state_in x.machine) ls h.closed (sym here)
            (λ l t own step. possible.all l t (subst (λ n. l.worker < n) (sym h.way.workers_are) own)
            (subst (λ q. next_state q (state_in x.machine) l ≡ Some t) (sym (rules_are acts x h.way)) step)));
        noted = λ t at. ⊎_elim (λ old. keeps_noted x.notes y.notes t keeps old)
            (λ is. subst (λ u. IsNoted program workers y.notes u) is noted)
            (h.noted t (subst (λ (v : WalkView). Contains (seen v).states t) s at));
      }

  pub arrived_program : (acts : List Act) (x : Search) → HasArrived program workers acts x
      → AreSound x.machine.program x.machine.workers x.notes
  arrived_program acts x h =
      subst (λ (n : ℕ). AreSound x.machine.program n x.notes) (sym h.way.workers_are)
      (subst (λ (p : Raw). AreSound p workers x.notes) (sym h.way.program_is) h.safe.sound)

  -- a search that takes its latest step back

  pub can_go_back : (w : ℕ) (acts : List Act) (x : Search) → IsSearch program workers (Back w ∷ acts) x
      → w < x.machine.workers
  can_go_back w acts x h = go h.way.latest h.way.entries h.way.stands
    where
      go : (latest : List Entry) → x.machine.history.entries ≡ in_order latest
          → Stands (rules_of program workers) workers (seen x.stored).states (Back w ∷ acts) latest → w <
          x.machine.workers
      go [] is stands = absurd stands
      go (e ∷ latest) is stands =
          subst (λ n. n < x.machine.workers) stands.0
          (last_own x.machine.workers (in_order latest) e
          (subst (λ es. AreOf x.machine.workers (map label_of es)) is h.way.leads.own))

  pub has_past : (w : ℕ) (acts : List Act) (x : Search) → IsSearch program workers (Back w ∷ acts) x
      → (t : State) × (before : List State) × ((seen x.stored).past ≡ t ∷ before)
  has_past w acts x h = go h.way.latest h.way.past h.way.stands
    where
      go : (latest : List Entry) → (seen x.stored).past ≡ past_by (rules_of program workers) latest
          → Stands (rules_of program workers) workers (seen x.stored).states (Back w ∷ acts) latest
          → (t : State) × (before : List State) × ((seen x.stored).past ≡ t ∷ before)
      go [] is stands = absurd stands
      go (e ∷ latest) is stands =
          (state_by (rules_of program workers) latest, past_by (rules_of program workers) latest, is)

  pub gone_back : (w : ℕ) (acts : List Act) (x y : Search) → IsSearch program workers (Back w ∷ acts) x
      → y.machine ≡ with_undo x.machine w → GoesBack (seen x.stored) (seen y.stored) → y.notes ≡ x.notes
      → y.steps ≡ x.steps → y.goes_round ≡ x.goes_round → IsSearch program workers acts y
  gone_back w acts x y h m s n steps round = go h.way.latest h.way.entries h.way.past h.way.stands h.closed
    where
      go : (latest : List Entry) → x.machine.history.entries ≡ in_order latest
          → (seen x.stored).past ≡ past_by (rules_of program workers) latest
          → Stands (rules_of program workers) workers (seen x.stored).states (Back w ∷ acts) latest
          → AllLead (rules_of program workers) workers (seen x.stored).states (Back w ∷ acts) latest
          → IsSearch program workers acts y
      go [] entries past stands closed = absurd stands
      go (e ∷ latest) entries past stands closed =
          let r : Rules = rules_of program workers in
          let es : List Entry = in_order latest in
          let back : y.machine ≡ record x.machine {
            history = record {
              entries = es;
              made = x.machine.history.made;
            };
          } =
          m ∙ undone x.machine es e w entries stands.0 in
          let states : (seen x.stored).states ≡ (seen y.stored).states = ap (λ (t : StatesView). t.states) s in
          let before : (seen x.stored).past ≡ (seen y.stored).at ∷ (seen y.stored).past = ap (λ (t : StatesView).
          t.past) s in
          let pasts : (seen y.stored).at ∷ (seen y.stored).past ≡ state_by r latest ∷ past_by r latest =
          sym before ∙ past in
          let at : (seen y.stored).at ≡ state_by r latest = cc in
          let pasts_rest : (seen y.stored).past ≡ past_by r latest = cc in
          let program_is : y.machine.program ≡ program = ap (λ (n : MachineView). n.program) back ∙ h.way.program_is in
          let workers_are : y.machine.workers ≡ workers = ap (λ (n : MachineView). n.workers) back ∙
          h.way.workers_are in
          let now : y.machine.history.entries ≡ es = ap (λ (n : MachineView). n.history.entries) back in
          let leads : Leads r workers (map label_of es) (state_of_entries r es) =
          leads_back r workers es e (state_of_entries r (es ++ e ∷ []))
          (subst (λ (p : Raw × ℕ × List Entry). Leads (rules_of p.0 p.1) p.1 (map label_of p.2)
          (state_of_entries (rules_of p.0 p.1) p.2)) (λ i. (h.way.program_is i, h.way.workers_are i, entries i))
          h.way.leads) in
          record {
            safe = record {
              sound = subst (λ t. AreSound program workers t) (sym n) h.safe.sound;
              reached = subst (λ ss. All (IsReached r workers) ss) states h.safe.reached;
              different = subst (λ (ss : List State). AllDifferent ss) states h.safe.different;
              begun = subst (λ (ss : List State). 1 ≤ length ss) states h.safe.begun;
              stepped = subst (λ k. length (seen y.stored).states ≤ k + 1) (sym steps)
                  (subst (λ (ss : List State). length ss ≤ x.steps + 1) states h.safe.stepped);
              round = λ is. h.safe.round (sym round ∙ is);
            };
            way = record {
              program_is = program_is;
              workers_are = workers_are;
              steps_are = steps ∙ h.way.steps_are ∙ sym (ap (λ (k : MachineView). k.history.made) back);
              latest = latest;
              entries = now;
              leads = subst (λ (p : Raw × ℕ × List Entry). Leads (rules_of p.0 p.1) p.1 (map label_of p.2)
                  (state_of_entries (rules_of p.0 p.1) p.2)) (λ i. (sym program_is i, sym workers_are i, sym now i))
                  leads;
              stands_at = record {
                program = program_is ∙ sym h.way.program_is ∙ h.way.stands_at.program
                    ∙ ap (λ (t : StatesView). t.program) s;
                workers = workers_are ∙ sym h.way.workers_are ∙ h.way.stands_at.workers
                    ∙ ap (λ (t : StatesView). t.workers) s;
                state = (λ i. state_of_entries (rules_of (program_is i) (workers_are i)) (now i)) ∙ sym at;
              };
              past = pasts_rest;
              stands = subst (λ ss. Stands r workers ss acts latest) states stands.2;
            };
            start = subst (λ ss. Contains ss r.start) states h.start;
            closed = subst (λ ss. AllLead r workers ss acts latest) states closed;
            noted = λ t there. subst (λ k. IsNoted program workers k t) (sym n)
                (h.noted t (subst (λ ss. Contains ss t) (sym states) there));
          }

  -- a search that tries a step

  pub can_try : (l : Label) (acts : List Act) (x : Search) → IsSearch program workers (Try l ∷ acts) x
      → l.worker < x.machine.workers
  can_try l acts x h = subst (λ n. l.worker < n) (sym h.way.workers_are) h.way.stands.0

  -- it can't be made

  pub not_tried : (l : Label) (acts : List Act) (x : Search) → IsSearch program workers (Try l ∷ acts) x
      → is_made (step_reply x.machine l) ≡ false → IsSearch program workers acts x
  not_tried l acts x h not =
      let r : Rules = rules_of program workers in
      let none : next_state r (state_by r h.way.latest) l ≡ None =
      (λ i. next_state (sym (rules_are (Try l ∷ acts) x h.way) i) (sym (here_is (Try l ∷ acts) x h.way) i) l)
      ∙ none_made x.machine l not in
      record {
        safe = h.safe;
        way = way_with (Try l ∷ acts) acts x x h.way refl refl refl h.way.stands.2;
        start = h.start;
        closed = not_made r workers (seen x.stored).states l acts h.way.latest h.closed none;
        noted = h.noted;
      }

  -- it is made, and leads to a new state

  pub made_known : (l : Label) (acts : List Act) (x y : Search) (s : StatesView)
      → IsSearch program workers (Try l ∷ acts) x → IsOneMore x.machine l y.machine
      → s ≡ gone_to (state_in y.machine) (seen x.stored) → y.notes ≡ x.notes → y.steps ≡ x.steps + 1
      → y.goes_round ≡ x.goes_round
      → (added : Bool) → Inserts added s (seen y.stored) → added ≡ true
      → HasArrived program workers (Back l.worker ∷ acts) y
  made_known l acts x y s h more follows n steps round false inserts is_true = cc
  made_known l acts x y s h more follows n steps round true inserts is_true =
      let r : Rules = rules_of program workers in
      let latest : List Entry = h.way.latest in
      let e : Entry = more.entry in
      let u : State = more.state in
      let es : List Entry = in_order latest in
      let program_is : y.machine.program ≡ program =
      ap (λ (k : MachineView). k.program) more.machine ∙ h.way.program_is in
      let workers_are : y.machine.workers ≡ workers =
      ap (λ (k : MachineView). k.workers) more.machine ∙ h.way.workers_are in
      let entries : y.machine.history.entries ≡ es ++ e ∷ [] =
      ap (λ (k : MachineView). k.history.entries) more.machine ∙ ap (λ xs. xs ++ e ∷ []) h.way.entries in
      let step : next_state r (state_by r latest) l ≡ Some u =
      (λ i. next_state (sym (rules_are (Try l ∷ acts) x h.way) i) (sym (here_is (Try l ∷ acts) x h.way) i) l)
      ∙ more.next in
      let before : Leads r workers (map label_of es) (state_by r latest) =
      subst (λ (p : Raw × ℕ × List Entry). Leads (rules_of p.0 p.1) p.1 (map label_of p.2)
      (state_of_entries (rules_of p.0 p.1) p.2)) (λ i. (h.way.program_is i, h.way.workers_are i, h.way.entries i))
      h.way.leads in
      let on : IsFurther r workers (es ++ e ∷ []) u =
      leads_on r workers es e l (state_by r latest) u before more.label h.way.stands.0 step in
      let here : state_in y.machine ≡ u =
      (λ i. state_of_entries (rules_of (program_is i) (workers_are i)) (entries i)) ∙ on.state in
      let stored : seen y.stored
      ≡ record (gone_to (state_in y.machine) (seen x.stored)) {
        states = (seen x.stored).states ++ state_in y.machine ∷ [];
      } =
      inserts.1 ∙ ap (λ (t : StatesView). record t { states = t.states ++ t.at ∷ [] }) follows in
      let states : (seen y.stored).states ≡ (seen x.stored).states ++ u ∷ [] =
      ap (λ (t : StatesView). t.states) stored
      ∙ ap (λ t. (seen x.stored).states ++ t ∷ []) here in
      let new : ¬ Contains (seen x.stored).states u =
      λ there. inserts.0 (subst (λ (t : StatesView). Contains t.states t.at) (sym follows)
      (subst (λ t. Contains (seen x.stored).states t) (sym here) there)) in
      let counts = state_more (length (seen x.stored).states) x.steps (length (seen y.stored).states) y.steps
      h.safe.stepped (ap (λ (ss : List State). length ss) states ∙ one_longer (seen x.stored).states u) steps in
      record {
        safe = record {
          sound = subst (λ t. AreSound program workers t) (sym n) h.safe.sound;
          reached = subst (λ ss. All (IsReached r workers) ss) (sym states)
              (All-push (IsReached r workers) (seen x.stored).states u h.safe.reached
              (record {
                labels = map label_of (es ++ e ∷ []);
                leads = subst (λ t. Leads r workers (map label_of (es ++ e ∷ [])) t) on.state on.leads;
              }));
          different = subst (λ (ss : List State). AllDifferent ss) (sym states)
              (different_push (seen x.stored).states u h.safe.different new);
          begun = counts.0;
          stepped = counts.1;
          round = λ is. h.safe.round (sym round ∙ is);
        };
        way = record {
          program_is = program_is;
          workers_are = workers_are;
          steps_are = steps ∙ ap (λ k. k + 1) h.way.steps_are
              ∙ sym (ap (λ (k : MachineView). k.history.made) more.machine);
          latest = e ∷ latest;
          entries = entries;
          leads = subst (λ (p : Raw × ℕ × List Entry). Leads (rules_of p.0 p.1) p.1 (map label_of p.2)
              (state_of_entries (rules_of p.0 p.1) p.2)) (λ i. (sym program_is i, sym workers_are i, sym entries i))
              on.leads;
          stands_at = record {
            program = program_is ∙ sym h.way.program_is ∙ h.way.stands_at.program
                ∙ sym (ap (λ (t : StatesView). t.program) stored);
            workers = workers_are ∙ sym h.way.workers_are ∙ h.way.stands_at.workers
                ∙ sym (ap (λ (t : StatesView). t.workers) stored);
            state = sym (ap (λ (t : StatesView). t.at) stored);
          };
          past = ap (λ (t : StatesView). t.past) stored
              ∙ (λ i. (sym h.way.stands_at.state ∙ here_is (Try l ∷ acts) x h.way) i ∷ h.way.past i);
          stands = (
            ap (λ (k : Label). k.worker) more.label,
            subst (λ ss. Contains ss (state_by r latest)) (sym states)
                (Contains-append_left (seen x.stored).states (u ∷ []) (state_by r latest) h.way.stands.1),
            subst (λ ss. Stands r workers ss acts latest) (sym states)
                (stands_more r workers (seen x.stored).states u acts latest h.way.stands.2),
          );
        };
        start = subst (λ ss. Contains ss r.start) (sym states)
            (Contains-append_left (seen x.stored).states (u ∷ []) r.start h.start);
        here = subst (λ ss. Contains ss (state_in y.machine)) (sym states)
            (subst (λ t. Contains ((seen x.stored).states ++ u ∷ []) t) (sym here) (Contains-push (seen
            x.stored).states u));
        closed = subst (λ ss. AllLeadBut r workers ss (Back l.worker ∷ acts) (e ∷ latest) (state_in y.machine))
            (sym states)
            (subst (λ t. AllLeadBut r workers ((seen x.stored).states ++ u ∷ []) (Back l.worker ∷ acts) (e ∷ latest) t)
            (sym here) (made_new r workers (seen x.stored).states l acts latest u e l.worker h.closed step));
        noted = λ t there. ⊎_elim
            (λ old. inl (subst (λ k. IsNoted program workers k t) (sym n) (h.noted t old)))
            (λ is. inr (here ∙ is))
            (Contains-push_cases (seen x.stored).states u t (subst (λ ss. Contains ss t) states there));
      }

  -- it is made, and leads to a state that was stored

  pub made_back : (l : Label) (acts : List Act) (x y : Search) (m : MachineView) (s t : StatesView)
      → IsSearch program workers (Try l ∷ acts) x → IsOneMore x.machine l m → s ≡ gone_to (state_in m) (seen x.stored)
      → Contains s.states s.at → t ≡ s → y.machine ≡ with_undo m l.worker → GoesBack t (seen y.stored) → y.notes ≡
      x.notes
      → y.steps ≡ x.steps + 1 → (y.goes_round ≡ true → (x.goes_round ≡ true) ⊎ Contains t.past t.at)
      → IsSearch program workers acts y
  made_back l acts x y m s t h more follows known same back goes n steps round =
      let r : Rules = rules_of program workers in
      let latest : List Entry = h.way.latest in
      let e : Entry = more.entry in
      let u : State = more.state in
      let es : List Entry = x.machine.history.entries in
      let undo : y.machine ≡ record m { history = record { entries = es; made = m.history.made } } =
      back ∙ undone m es e l.worker (ap (λ (k : MachineView). k.history.entries) more.machine)
      (ap (λ (k : Label). k.worker) more.label) in
      let m_program : m.program ≡ program = ap (λ (k : MachineView). k.program) more.machine ∙ h.way.program_is in
      let m_workers : m.workers ≡ workers = ap (λ (k : MachineView). k.workers) more.machine ∙ h.way.workers_are in
      let m_entries : m.history.entries ≡ in_order latest ++ e ∷ [] =
      ap (λ (k : MachineView). k.history.entries) more.machine ∙ ap (λ xs. xs ++ e ∷ []) h.way.entries in
      let program_is : y.machine.program ≡ program = ap (λ (k : MachineView). k.program) undo ∙ m_program in
      let workers_are : y.machine.workers ≡ workers = ap (λ (k : MachineView). k.workers) undo ∙ m_workers in
      let entries : y.machine.history.entries ≡ in_order latest =
      ap (λ (k : MachineView). k.history.entries) undo ∙ h.way.entries in
      let step : next_state r (state_by r latest) l ≡ Some u =
      (λ i. next_state (sym (rules_are (Try l ∷ acts) x h.way) i) (sym (here_is (Try l ∷ acts) x h.way) i) l)
      ∙ more.next in
      let before : Leads r workers (map label_of (in_order latest)) (state_by r latest) =
      subst (λ (p : Raw × ℕ × List Entry). Leads (rules_of p.0 p.1) p.1 (map label_of p.2)
      (state_of_entries (rules_of p.0 p.1) p.2)) (λ i. (h.way.program_is i, h.way.workers_are i, h.way.entries i))
      h.way.leads in
      let on : IsFurther r workers (in_order latest ++ e ∷ []) u =
      leads_on r workers (in_order latest) e l (state_by r latest) u before more.label h.way.stands.0 step in
      let there : state_in m ≡ u =
      (λ i. state_of_entries (rules_of (m_program i) (m_workers i)) (m_entries i)) ∙ on.state in
      let stored : gone_to (state_in m) (seen x.stored) ≡ gone_to t.at (seen y.stored) = sym follows ∙ sym same ∙
      goes in
      let states : (seen x.stored).states ≡ (seen y.stored).states = ap (λ (k : StatesView). k.states) stored in
      let pasts : (seen x.stored).at ∷ (seen x.stored).past ≡ (seen y.stored).at ∷ (seen y.stored).past = ap (λ (k
      : StatesView). k.past) stored in
      let at : (seen x.stored).at ≡ (seen y.stored).at = cc in
      let past : (seen x.stored).past ≡ (seen y.stored).past = cc in
      let in_it : Contains (seen x.stored).states u =
      subst (λ k. Contains (seen x.stored).states k) there
      (subst (λ (k : StatesView). Contains k.states k.at) follows known) in
      let again : Contains t.past t.at → GoesRound r workers =
      λ at. goes_round r workers (e ∷ latest) u
      (subst (λ k. Leads r workers (map label_of (in_order latest ++ e ∷ [])) k) on.state on.leads)
      (subst (λ k. Contains (past_by r (e ∷ latest)) k) there
      (subst (λ ss. Contains ss (state_in m))
      (λ i. (sym h.way.stands_at.state ∙ here_is (Try l ∷ acts) x h.way) i ∷ h.way.past i)
      (subst (λ (k : StatesView). Contains k.past k.at) (same ∙ follows) at))) in
      record {
        safe = record {
          sound = subst (λ k. AreSound program workers k) (sym n) h.safe.sound;
          reached = subst (λ ss. All (IsReached r workers) ss) states h.safe.reached;
          different = subst (λ (ss : List State). AllDifferent ss) states h.safe.different;
          begun = subst (λ (ss : List State). 1 ≤ length ss) states h.safe.begun;
          stepped = step_more (length (seen y.stored).states) x.steps y.steps
              (subst (λ (ss : List State). length ss ≤ x.steps + 1) states h.safe.stepped) steps;
          round = λ is. ⊎_elim (λ old. h.safe.round old) again (round is);
        };
        way = record {
          program_is = program_is;
          workers_are = workers_are;
          steps_are = steps ∙ ap (λ k. k + 1) h.way.steps_are
              ∙ sym (ap (λ (k : MachineView). k.history.made) more.machine)
              ∙ sym (ap (λ (k : MachineView). k.history.made) undo);
          latest = latest;
          entries = entries;
          leads = subst (λ (p : Raw × ℕ × List Entry). Leads (rules_of p.0 p.1) p.1 (map label_of p.2)
              (state_of_entries (rules_of p.0 p.1) p.2)) (λ i. (sym program_is i, sym workers_are i, sym entries i))
              before;
          stands_at = record {
            program = program_is ∙ sym h.way.program_is ∙ h.way.stands_at.program
                ∙ ap (λ (k : StatesView). k.program) stored;
            workers = workers_are ∙ sym h.way.workers_are ∙ h.way.stands_at.workers
                ∙ ap (λ (k : StatesView). k.workers) stored;
            state = (λ i. state_of_entries (rules_of (program_is i) (workers_are i)) (entries i))
                ∙ sym (here_is (Try l ∷ acts) x h.way) ∙ h.way.stands_at.state ∙ at;
          };
          past = sym past ∙ h.way.past;
          stands = subst (λ ss. Stands r workers ss acts latest) states h.way.stands.2;
        };
        start = subst (λ ss. Contains ss r.start) states h.start;
        closed = subst (λ ss. AllLead r workers ss acts latest) states
            (made_again r workers (seen x.stored).states l acts latest u h.closed step in_it);
        noted = λ v at_it. subst (λ k. IsNoted program workers k v) (sym n)
            (h.noted v (subst (λ ss. Contains ss v) (sym states) at_it));
      }

  -- a search that stops

  pub complete : (limits : Limits) (acts : List Act) (x y : Search) → IsSearch program workers acts x → acts ≡ []
      → y.stored ≡ x.stored → y.notes ≡ x.notes → y.steps ≡ x.steps → y.goes_round ≡ x.goes_round
      → Answers program workers limits verdict.Complete y
  complete limits acts x y h none s n steps round =
      let r : Rules = rules_of program workers in
      let closed : AllLead r workers (seen x.stored).states [] h.way.latest =
      subst (λ more. AllLead r workers (seen x.stored).states more h.way.latest) none h.closed in
      let all : (ls : List Label) (t : State) → Leads r workers ls t → IsNoted program workers x.notes t =
      λ ls t leads. h.noted t (stays r workers (λ v. Contains (seen x.stored).states v)
      (nothing_left r workers (seen x.stored).states h.way.latest closed) ls r.start t h.start leads.own
      leads.replayed) in
      record {
        safe = safe_with x y (subst (λ k. AreSound program workers k) (sym n) h.safe.sound) s steps round h.safe;
        all_ends = λ _. subst (λ (k : notes.Notes). AreAllEnds program workers (map ending_of_found k.ends)) (sym n)
            (λ ls t leads end. (all ls t leads).end end);
        all_faults = λ _. subst (λ (k : notes.Notes). AreAllFaults program workers (map met_of_found k.faults)) (sym n)
            (λ ls t met leads own is. (all ls t leads).faults met own is);
        all_races = λ _. subst (λ (k : notes.Notes). AreAllRaces program workers (map pair_of_found k.races)) (sym n)
            (λ ls t a b p q leads own others race. (all ls t leads).races a b p q own others race);
        gave_up = λ no. absurd (not_both no);
        asked = λ no. absurd (not_stopped no);
      }
    where
      not_both : verdict.Complete ≡ verdict.NotComplete → ⊥
      not_both h = cc

      not_stopped : verdict.Complete ≡ verdict.Stopped → ⊥
      not_stopped h = cc
