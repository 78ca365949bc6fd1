-- What is still to be done, by what is done next: each step from a stored state leads to one, or is still to be tried.
use Rattle.std.proofs.Common.{◌≡◌, refl, sym, ◌∙◌, ap, subst, ℕ, suc, ◌<◌}
use Rattle.std.proofs.Common.{Option, None, Some, List, [], ◌∷◌, ◌++◌, arith}
use Rattle.std.proofs.Common.{⊎_elim, ◌⊎◌, inl, inr}
use Rattle.std.specs.Prelude.{Contains}
use Rattle.std.proofs.lemmas.List.Elements.{Contains-append_left, Contains-append_cases}
use Rattle.std.proofs.lemmas.List.Elements.{Contains-push, Contains-push_cases}
use Rattle.om_state.specs.declared.step.Entry.{Entry}
use Rattle.om_state.specs.declared.step.Label.{Label}
use Rattle.om_state.specs.Rules.{Rules, next_state}
use Rattle.om_state.specs.State.{State}
use Rattle.lab_explore.specs.Acts.{Act, Try, Back, tries, state_by, Stands, IsPending, AllLead, AllLeadBut}

module _ (r : Rules) (workers : ℕ) where
  -- steps that are put on top

  pub stands_on : (stored : List State) (ls : List Label) (acts : List Act) (latest : List Entry)
      → ((l : Label) → Contains ls l → l.worker < workers)
      → Contains stored (state_by r latest) → Stands r workers stored acts latest
      → Stands r workers stored (tries ls acts) latest
  stands_on stored [] acts latest own there h = h
  stands_on stored (l ∷ ls) acts latest own there h =
      stands_on stored ls (Try l ∷ acts) latest (λ m at. own m (behind l ls m at)) there (own l (first l ls), there, h)
    where
      first : (x : Label) (xs : List Label) → Contains (x ∷ xs) x
      first x xs = (0, omega arith, refl)

      behind : (x : Label) (xs : List Label) (y : Label) → Contains xs y → Contains (x ∷ xs) y
      behind x xs y at = (suc at.0, omega (arith, at.1), at.2)

  pub still_pending : (ls : List Label) (acts : List Act) (latest : List Entry) (s : State) (l : Label)
      → IsPending r acts latest s l → IsPending r (tries ls acts) latest s l
  still_pending [] acts latest s l h = h
  still_pending (m ∷ ms) acts latest s l h = still_pending ms (Try m ∷ acts) latest s l (inr h)

  cases : (x : Label) (xs : List Label) (y : Label) → Contains (x ∷ xs) y → (x ≡ y) ⊎ Contains xs y
  cases x xs y h = ⊎_elim
      (λ one. ⊎_elim (λ none. absurd (omega (arith, none.1))) (λ is. inl is) (Contains-push_cases [] x y one))
      (λ rest. inr rest) (Contains-append_cases (x ∷ []) xs y h)

  pub now_pending : (ls : List Label) (acts : List Act) (latest : List Entry) (l : Label) → Contains ls l
      → IsPending r (tries ls acts) latest (state_by r latest) l
  now_pending [] acts latest l h = absurd (omega (arith, h.1))
  now_pending (m ∷ ms) acts latest l h =
      ⊎_elim (λ is. still_pending ms (Try m ∷ acts) latest (state_by r latest) l (inl (refl, is)))
      (λ rest. now_pending ms (Try m ∷ acts) latest l rest) (cases m ms l h)

  -- more stored states

  pub stands_more : (stored : List State) (u : State) (acts : List Act) (latest : List Entry)
      → Stands r workers stored acts latest → Stands r workers (stored ++ u ∷ []) acts latest
  stands_more stored u [] latest h = h
  stands_more stored u (Try l ∷ acts) latest h =
      (h.0, Contains-append_left stored (u ∷ []) (state_by r latest) h.1, stands_more stored u acts latest h.2)
  stands_more stored u (Back w ∷ acts) [] h = h
  stands_more stored u (Back w ∷ acts) (e ∷ latest) h =
      (h.0, Contains-append_left stored (u ∷ []) (state_by r latest) h.1, stands_more stored u acts latest h.2)

  -- a step that is tried and can't be made

  led : (m l : Label) (s t v : State) → next_state r v m ≡ None → v ≡ s → m ≡ l → next_state r s l ≡ Some t → ⊥
  led m l s t v none here is step =
      let no : None ≡ Some t = sym none ∙ (λ i. next_state r (here i) (is i)) ∙ step in cc

  pub not_made : (stored : List State) (m : Label) (acts : List Act) (latest : List Entry)
      → AllLead r workers stored (Try m ∷ acts) latest → next_state r (state_by r latest) m ≡ None
      → AllLead r workers stored acts latest
  not_made stored m acts latest all none s t l at own step =
      ⊎_elim (λ there. inl there)
      (λ pending. ⊎_elim
      (λ it. absurd (led m l s t (state_by r latest) none it.0 it.1 step)) (λ rest. inr rest) pending)
      (all s t l at own step)

  -- one that leads to a state that is stored

  same_end : (m l : Label) (s t u v : State) → next_state r v m ≡ Some u → v ≡ s → m ≡ l → next_state r s l ≡ Some t
      → u ≡ t
  same_end m l s t u v made here is step =
      let one : Some u ≡ Some t = sym made ∙ (λ i. next_state r (here i) (is i)) ∙ step in cc

  pub made_again : (stored : List State) (m : Label) (acts : List Act) (latest : List Entry) (u : State)
      → AllLead r workers stored (Try m ∷ acts) latest → next_state r (state_by r latest) m ≡ Some u
      → Contains stored u → AllLead r workers stored acts latest
  made_again stored m acts latest u all made there s t l at own step =
      ⊎_elim (λ in_it. inl in_it)
      (λ pending. ⊎_elim
      (λ it. inl (subst (λ x. Contains stored x) (same_end m l s t u (state_by r latest) made it.0 it.1 step) there))
      (λ rest. inr rest) pending)
      (all s t l at own step)

  -- one that leads to a new state, where the search arrives

  pub made_new : (stored : List State) (m : Label) (acts : List Act) (latest : List Entry) (u : State) (e : Entry)
      (w : ℕ) → AllLead r workers stored (Try m ∷ acts) latest → next_state r (state_by r latest) m ≡ Some u
      → AllLeadBut r workers (stored ++ u ∷ []) (Back w ∷ acts) (e ∷ latest) u
  made_new stored m acts latest u e w all made s t l at own step =
      ⊎_elim
      (λ old. inl (⊎_elim (λ there. inl (Contains-append_left stored (u ∷ []) t there))
      (λ pending. ⊎_elim
      (λ it. inl (subst (λ x. Contains (stored ++ u ∷ []) x)
      (same_end m l s t u (state_by r latest) made it.0 it.1 step) (Contains-push stored u)))
      (λ rest. inr rest) pending)
      (all s t l old own step)))
      (λ is. inr is)
      (Contains-push_cases stored u s at)

  -- the steps from there are put on top

  pub all_tried : (stored : List State) (acts : List Act) (latest : List Entry) (here : State) (ls : List Label)
      → AllLeadBut r workers stored acts latest here → state_by r latest ≡ here
      → ((l : Label) (t : State) → l.worker < workers → next_state r here l ≡ Some t → Contains ls l)
      → AllLead r workers stored (tries ls acts) latest
  all_tried stored acts latest here ls all is letters s t l at own step =
      ⊎_elim
      (λ led. ⊎_elim (λ there. inl there) (λ pending. inr (still_pending ls acts latest s l pending)) led)
      (λ same. inr (subst (λ x. IsPending r (tries ls acts) latest x l) (is ∙ same)
      (now_pending ls acts latest l
      (letters l t own (subst (λ x. next_state r x l ≡ Some t) (sym same) step)))))
      (all s t l at own step)

  -- the latest step is taken back

  pub taken_back : (stored : List State) (w : ℕ) (acts : List Act) (e : Entry) (latest : List Entry)
      → AllLead r workers stored (Back w ∷ acts) (e ∷ latest) → AllLead r workers stored acts latest
  taken_back stored w acts e latest all = all

  -- nothing is left to be done

  never : (P : Type 0) → ⊥ → P
  never P h = absurd h

  pub nothing_left : (stored : List State) (latest : List Entry) → AllLead r workers stored [] latest
      → (s t : State) (l : Label) → Contains stored s
      → l.worker < workers → next_state r s l ≡ Some t → Contains stored t
  nothing_left stored latest all s t l at own step =
      ⊎_elim (λ there. there) (λ none. never (Contains stored t) none) (all s t l at own step)
