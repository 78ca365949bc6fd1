-- The steps that can be made are found.
use Rattle.std.proofs.Common.{◌≡◌, refl, sym, ◌∙◌, ap, subst, ℕ, suc, ◌+◌, ◌<◌, Bool, true, false, Option, None, Some, is_some}
use Rattle.std.proofs.Common.{List, [], ◌∷◌, ◌++◌, map, length, take, drop, get_or, arith, ⊎_elim, ◌⊎◌, inl, inr}
use Rattle.std.specs.Prelude.{All, Contains}
use Rattle.std.proofs.Math.Seq.{drop-cons}
use Rattle.std.proofs.lemmas.List.{map-append, append_assoc}
use Rattle.std.proofs.lemmas.List.Elements.{All-nil, All-append, All-cons, Contains-append_left, Contains-append_right}
use Rattle.om_foot.specs.declared.footprint.Access.{Access}
use Rattle.om_state.specs.declared.step.Label.{Label}
use Rattle.om_state.specs.declared.step.Outcome.{Outcome}
use Rattle.om_state.specs.declared.step.Outcome.TheVariants as outcome
use Rattle.om_state.specs.Rules.{next_state, state_after_outcome, step_at}
use Rattle.om_state.specs.State.{State}
use Rattle.om_undo.specs.Machines.{MachineView, rules_for, state_in}
use Rattle.om_undo.specs.PlannedSteps.{if_updates, touched_if_made}
use Rattle.lab_explore_closed.specs.Runs.{AreOf}
use Rattle.lab_explore_moves.specs.declared.possible.PossibleStep.{PossibleStep}
use Rattle.lab_explore_moves.specs.Letters.{AreLetters}
use Rattle.lab_explore_moves.specs.Possible.{IsPossible, ArePossible, label_of_possible, possible_with, possible_by, possible_among}
use Rattle.lab_explore_moves.proofs.LetterLemmas.{cases}

-- one step

module _ (s : State) (fp : List Access) where
  was_possible : (o : Outcome) (xs : List Access) → Some xs ≡ if_updates fp o
      → is_some (state_after_outcome fp o s) ≡ true
  was_possible (outcome.Updates us) xs h = refl
  was_possible (outcome.Blocked why) xs h = cc
  was_possible outcome.Ended xs h = cc

  was_footprint : (o : Outcome) (xs : List Access) → Some xs ≡ if_updates fp o → xs ≡ fp
  was_footprint (outcome.Updates us) xs h = cc
  was_footprint (outcome.Blocked why) xs h = cc
  was_footprint outcome.Ended xs h = cc

  was_touched : (o : Outcome) (t : State) → state_after_outcome fp o s ≡ Some t → if_updates fp o ≡ Some fp
  was_touched (outcome.Updates us) t h = refl
  was_touched (outcome.Blocked why) t h = cc
  was_touched outcome.Ended t h = cc

each_with : (m : MachineView) (l : Label) (o : Option (List Access)) → o ≡ touched_if_made m l → l.worker < m.workers
    → All (IsPossible m) (possible_with m l o)
each_with m l None e own = All-nil (IsPossible m)
each_with m l (Some xs) e own =
    let d = step_at (rules_for m) (state_in m) l in
    All-cons (IsPossible m) _ [] (record {
      worker = own;
      possible = was_possible (state_in m) d.footprint d.outcome xs e;
      line = refl;
      instruction = refl;
      atomicity = refl;
      accesses = was_footprint (state_in m) d.footprint d.outcome xs e;
    }) (All-nil (IsPossible m))

each_among : (m : MachineView) (ls : List Label) → AreOf m.workers ls → All (IsPossible m) (possible_among m ls)
each_among m [] own = All-nil (IsPossible m)
each_among m (l ∷ ls) own =
    All-append (IsPossible m) (possible_by m l) (possible_among m ls)
    (each_with m l (touched_if_made m l) refl own.0) (each_among m ls own.1)

-- each of those that can be made is there

here_with : (m : MachineView) (l : Label) (o : Option (List Access)) (xs : List Access) → o ≡ Some xs
    → Contains (map label_of_possible (possible_with m l o)) l
here_with m l None xs e = cc
here_with m l (Some ys) xs e = (0, omega arith, refl)

here_by : (m : MachineView) (l : Label) (t : State) → next_state (rules_for m) (state_in m) l ≡ Some t
    → Contains (map label_of_possible (possible_by m l)) l
here_by m l t h =
    let d = step_at (rules_for m) (state_in m) l in
    here_with m l (touched_if_made m l) d.footprint (was_touched (state_in m) d.footprint d.outcome t h)

there_among : (m : MachineView) (ls : List Label) (l : Label) (t : State)
    → next_state (rules_for m) (state_in m) l ≡ Some t → Contains ls l
    → Contains (map label_of_possible (possible_among m ls)) l
there_among m [] l t h at = absurd (omega (arith, at.1))
there_among m (x ∷ xs) l t h at =
    subst (λ all. Contains all l) (sym (map-append label_of_possible (possible_by m x) (possible_among m xs)))
    (⊎_elim
    (λ is. Contains-append_left (map label_of_possible (possible_by m x))
    (map label_of_possible (possible_among m xs)) l
    (subst (λ y. Contains (map label_of_possible (possible_by m y)) l) (sym is) (here_by m l t h)))
    (λ rest. Contains-append_right (map label_of_possible (possible_by m x))
    (map label_of_possible (possible_among m xs)) l (there_among m xs l t h rest))
    (cases x xs l at))

pub are_possible : (m : MachineView) (ls : List Label) (ps : List PossibleStep) → AreLetters m ls
    → ps ≡ possible_among m ls → ArePossible m ps
are_possible m ls ps letters is = record {
  each = subst (λ all. All (IsPossible m) all) (sym is) (each_among m ls letters.own);
  all = λ l t own h. subst (λ all. Contains (map label_of_possible all) l) (sym is)
      (there_among m ls l t h (letters.each l t own h));
}

-- one step more is looked at

pub among_next : (m : MachineView) (ls : List Label) (i : ℕ) (l : Label) (old new all : List PossibleStep)
    → i < length ls → l ≡ get_or ls i l → old ++ possible_among m (drop i ls) ≡ all → new ≡ old ++ possible_by m l
    → new ++ possible_among m (drop (i + 1) ls) ≡ all
among_next m ls i l old new all less is before step =
    let split : drop i ls ≡ l ∷ drop (suc i) ls =
    drop-cons ls i l less ∙ ap (λ x. x ∷ drop (suc i) ls) (sym is) in
    ap (λ n. new ++ possible_among m (drop n ls)) next
    ∙ ap (λ xs. xs ++ possible_among m (drop (suc i) ls)) step
    ∙ append_assoc old (possible_by m l) (possible_among m (drop (suc i) ls))
    ∙ ap (λ xs. old ++ possible_among m xs) (sym split) ∙ before
  where
    next : i + 1 ≡ suc i
    next = omega arith
