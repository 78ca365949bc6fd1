-- The computed list has the names of all tasks that are ready, ascending.
use Rattle.std.proofs.Common.{◌≡◌, refl, sym, ◌∙◌, ap, subst, Bool, true, false, cond, Option, None, Some, List, []}
use Rattle.std.proofs.Common.{◌∷◌, ℕ, ◌⊎◌, inl, ⊎_elim, arith}
use Rattle.std.specs.Prelude.{Contains, map, unwrap_or}
use Rattle.std.specs.List.Sorted.{IsStrictlySortedBy}
use Rattle.om_foot.specs.declared.object.Obj.TheVariants as obj
use Rattle.om_state.specs.declared.step.Label.{Label}
use Rattle.om_state.specs.State.{State}
use Rattle.om_state.specs.Ready.{is_ready, AreReady}
use Rattle.om_state.specs.Rules.{Rules, replay_from}
use Rattle.om_state.specs.Values.{task_in}
use Rattle.om_undo_history.specs.Laws.{steps_from}
use Rattle.om_undo_history.specs.Runs.{label_of}
use Rattle.om_undo.specs.Machines.{MachineView, rules_for, state_in}
use Rattle.om_undo.specs.ReadyNames.{inserted, ready_among, ready_names, tasks_of}
use Rattle.om_undo.proofs.Inserted.{Ascend, inserted_ascends, inserted_has, inserted_there, inserted_keeps}
use Rattle.om_undo.proofs.Inserted.{first_or_behind}
use Rattle.om_undo.proofs.Touched.{replay_at}

abbrev IsReadyAt : State → List ℕ → Type 0
IsReadyAt s n = is_ready (task_in (s (obj.Task n))) ≡ true

one_ascends : (name : List ℕ) (b : Bool) (names : List (List ℕ)) → Ascend names
    → Ascend (cond b (inserted name names) names)
one_ascends name true names h = inserted_ascends name names h
one_ascends name false names h = h

among_ascends : (s : State) (names : List (List ℕ)) → Ascend (ready_among s names)
unfolding IsStrictlySortedBy
among_ascends s [] = tt
among_ascends s (name ∷ names) = one_ascends name (is_ready (task_in (s (obj.Task name)))) (ready_among s names)
    (among_ascends s names)

one_ready : (s : State) (name n : List ℕ) (b : Bool) (names : List (List ℕ))
    → is_ready (task_in (s (obj.Task name))) ≡ b
    → Contains (cond b (inserted name names) names) n → (Contains names n → IsReadyAt s n) → IsReadyAt s n
one_ready s name n false names e h rest = rest h
one_ready s name n true names e h rest = ⊎_elim (λ is. subst (IsReadyAt s) is e) (λ more. rest more)
    (inserted_has name n names h)

each_ready : (s : State) (names : List (List ℕ)) (n : List ℕ) → Contains (ready_among s names) n → IsReadyAt s n
each_ready s [] n h = absurd (omega (arith, h.1))
each_ready s (name ∷ names) n h = one_ready s name n (is_ready (task_in (s (obj.Task name)))) (ready_among s names)
    refl h (each_ready s names n)

not_both : {b : Bool} → b ≡ true → b ≡ false → ⊥
not_both p q = cc

one_there : (s : State) (name n : List ℕ) (b : Bool) (names others : List (List ℕ))
    → is_ready (task_in (s (obj.Task name))) ≡ b
    → IsReadyAt s n → (name ≡ n) ⊎ Contains names n → (Contains names n → Contains others n)
    → Contains (cond b (inserted name others) others) n
one_there s name n true names others e ready there rest =
    ⊎_elim (λ is. subst (Contains (inserted name others)) is (inserted_there name others))
    (λ more. inserted_keeps name n others (rest more)) there
one_there s name n false names others e ready there rest =
    ⊎_elim (λ is. absurd (not_both (subst (IsReadyAt s) (sym is) ready) e)) (λ more. rest more) there

all_there : (s : State) (names : List (List ℕ)) (n : List ℕ) → IsReadyAt s n → Contains names n
    → Contains (ready_among s names) n
all_there s [] n ready h = h
all_there s (name ∷ names) n ready h =
    one_there s name n (is_ready (task_in (s (obj.Task name)))) names (ready_among s names) refl ready
    (first_or_behind name n names h) (all_there s names n ready)

-- no task is ready at the start
none_at_start : (m : MachineView) (n : List ℕ) → IsReadyAt (rules_for m).start n → ⊥
none_at_start m n h = cc

touched_or_start : (r : Rules) (ls : List Label) (n : List ℕ) (o : Option State) → replay_from r r.start ls ≡ o
    → (unwrap_or o r.start (obj.Task n) ≡ r.start (obj.Task n)) ⊎ Contains (tasks_of (steps_from r r.start ls)) n
touched_or_start r ls n None e = inl refl
touched_or_start r ls n (Some t) e = replay_at r r.start t ls n e

ready_is_touched : (m : MachineView) (n : List ℕ) → IsReadyAt (state_in m) n
    → Contains (tasks_of (steps_from (rules_for m) (rules_for m).start (map label_of m.history.entries))) n
ready_is_touched m n ready =
    let ls = map label_of m.history.entries in
    ⊎_elim (λ same. absurd (none_at_start m n (ap (λ v. is_ready (task_in v)) (sym same) ∙ ready))) (λ there. there)
    (touched_or_start (rules_for m) ls n (replay_from (rules_for m) (rules_for m).start ls) refl)

pub names_are_ready : (m : MachineView) → AreReady (state_in m) (ready_names m)
unfolding ready_names
names_are_ready m =
    let touched = tasks_of (steps_from (rules_for m) (rules_for m).start (map label_of m.history.entries)) in
    record {
      ascending = among_ascends (state_in m) touched;
      members = λ n. (
        each_ready (state_in m) touched n,
        λ ready. all_there (state_in m) touched n ready
            (ready_is_touched m n ready),
      );
    }
