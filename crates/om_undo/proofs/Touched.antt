-- A task that no step touches is as it was at the start.
use Rattle.std.proofs.Common.{◌≡◌, refl, sym, ◌∙◌, ap, subst, Bool, true, false, cond, Option, None, Some, List, []}
use Rattle.std.proofs.Common.{◌∷◌, ℕ, ◌⊎◌, inl, inr, ⊎_elim, nat_eq, unwrap_or}
use Rattle.std.specs.Prelude.{Contains}
use Rattle.std.specs.Cmp.Lexicographic.{pointwise, same_text}
use Rattle.om_foot.specs.declared.object.Obj.{Obj}
use Rattle.om_foot.specs.declared.object.Obj.TheVariants as obj
use Rattle.om_foot.specs.declared.footprint.Access.{Access}
use Rattle.om_foot.specs.Footprint.{obj_eq}
use Rattle.om_state.specs.declared.step.Label.{Label}
use Rattle.om_state.specs.declared.step.Outcome.{Outcome}
use Rattle.om_state.specs.declared.step.Outcome.TheVariants as outcome
use Rattle.om_state.specs.declared.step.Update.{Update}
use Rattle.om_state.specs.declared.value.Val.{Val}
use Rattle.om_state.specs.State.{State, state_after, updated, value_after}
use Rattle.om_state.specs.Rules.{Rules, step_at, state_after_outcome, next_state, and_then, replay_from}
use Rattle.om_undo_history.specs.Laws.{steps_from, steps_then}
use Rattle.om_undo.specs.ReadyNames.{with_task, tasks_in, tasks_of}
use Rattle.om_undo.proofs.Inserted.{stands_first, stands_behind}

with_task_keeps : (q : Obj) (names : List (List ℕ)) (n : List ℕ) → Contains names n → Contains (with_task q names) n
with_task_keeps (obj.Task m) names n h = stands_behind m n names h
with_task_keeps (obj.Control w) names n h = h
with_task_keeps (obj.Cell t f s i) names n h = h
with_task_keeps (obj.Global g i) names n h = h
with_task_keeps (obj.Kids t) names n h = h
with_task_keeps (obj.Pending t p) names n h = h
with_task_keeps (obj.Arrived t k) names n h = h
with_task_keeps (obj.Work t r) names n h = h
with_task_keeps (obj.Lock l) names n h = h
with_task_keeps (obj.Group g) names n h = h
with_task_keeps obj.Output names n h = h
with_task_keeps (obj.Events w) names n h = h

same_name : (m n : List ℕ) (names : List (List ℕ)) (v w : Val) (b : Bool) → pointwise nat_eq m n ≡ b
    → (cond b v w ≡ w) ⊎ Contains (m ∷ names) n
same_name m n names v w false e = inl refl
same_name m n names v w true e = inr (subst (λ x. Contains (x ∷ names) n) (sym (same_text m n (sym e)))
    (stands_first n names))

-- a value at a task is the other one, or the object is the task
at_task : (q : Obj) (n : List ℕ) (names : List (List ℕ)) (v w : Val) → (cond (obj_eq q (obj.Task n)) v w ≡ w)
    ⊎ Contains (with_task q names) n
at_task (obj.Task m) n names v w = same_name m n names v w (pointwise nat_eq m n) refl
at_task (obj.Control k) n names v w = inl refl
at_task (obj.Cell t f s i) n names v w = inl refl
at_task (obj.Global g i) n names v w = inl refl
at_task (obj.Kids t) n names v w = inl refl
at_task (obj.Pending t p) n names v w = inl refl
at_task (obj.Arrived t k) n names v w = inl refl
at_task (obj.Work t r) n names v w = inl refl
at_task (obj.Lock l) n names v w = inl refl
at_task (obj.Group g) n names v w = inl refl
at_task obj.Output n names v w = inl refl
at_task (obj.Events k) n names v w = inl refl

tasks_in_keeps : (accesses : List Access) (names : List (List ℕ)) (n : List ℕ) → Contains names n
    → Contains (tasks_in accesses names) n
tasks_in_keeps [] names n h = h
tasks_in_keeps (a ∷ rest) names n h = with_task_keeps a.object (tasks_in rest names) n (tasks_in_keeps rest names n h)

updates_at : (accesses : List Access) (us : List Update) (s : State) (names : List (List ℕ)) (n : List ℕ)
    → (updated accesses us s (obj.Task n) ≡ s (obj.Task n)) ⊎ Contains (tasks_in accesses names) n
updates_at [] us s names n = inl refl
updates_at (a ∷ rest) [] s names n = inl refl
updates_at (a ∷ rest) (u ∷ us) s names n =
    ⊎_elim (λ same. ⊎_elim (λ kept. inl (same ∙ kept)) (λ there. inr there)
    (at_task a.object n (tasks_in rest names) (value_after a.mode u (s (obj.Task n))) (s (obj.Task n))))
    (λ there. inr (with_task_keeps a.object (tasks_in rest names) n there))
    (updates_at rest us (state_after a u s) names n)

outcome_at : (accesses : List Access) (o : Outcome) (s t : State) (names : List (List ℕ)) (n : List ℕ)
    → state_after_outcome accesses o s ≡ Some t
    → (t (obj.Task n) ≡ s (obj.Task n)) ⊎ Contains (tasks_in accesses names) n
outcome_at accesses (outcome.Updates us) s t names n e =
    subst (λ (x : State). (x (obj.Task n) ≡ s (obj.Task n)) ⊎ Contains (tasks_in accesses names) n)
    (ap (λ x. unwrap_or x t) e) (updates_at accesses us s names n)
outcome_at accesses (outcome.Blocked b) s t names n e = cc
outcome_at accesses outcome.Ended s t names n e = cc

abbrev StaysOrTouched : Rules → State → List Label → State → List ℕ → Type 0
StaysOrTouched r s ls t n = (t (obj.Task n) ≡ s (obj.Task n)) ⊎ Contains (tasks_of (steps_from r s ls)) n

step_then : (r : Rules) (s t : State) (l : Label) (ls : List Label) (n : List ℕ) (o : Option State)
    → next_state r s l ≡ o
    → and_then o (λ x. replay_from r x ls) ≡ Some t → ((x : State) → replay_from r x ls ≡ Some t → StaysOrTouched r
    x ls t n)
    → (t (obj.Task n) ≡ s (obj.Task n))
    ⊎ Contains (tasks_in (step_at r s l).footprint (tasks_of (steps_then o (λ x. steps_from r x ls)))) n
step_then r s t l ls n None next e rest = cc
step_then r s t l ls n (Some x) next e rest =
    let names = tasks_of (steps_from r x ls) in
    ⊎_elim (λ same. ⊎_elim (λ kept. inl (same ∙ kept)) (λ there. inr there)
    (outcome_at (step_at r s l).footprint (step_at r s l).outcome s x names n next))
    (λ there. inr (tasks_in_keeps (step_at r s l).footprint names n there)) (rest x e)

-- behind a replay a task is as before it, or a step touched it
pub replay_at : (r : Rules) (s t : State) (ls : List Label) (n : List ℕ) → replay_from r s ls ≡ Some t
    → StaysOrTouched r s ls t n
replay_at r s t [] n e = inl (ap (λ (x : State). x (obj.Task n)) (sym (ap (λ x. unwrap_or x t) e)))
replay_at r s t (l ∷ ls) n e = step_then r s t l ls n (next_state r s l) refl e (λ x next. replay_at r x t ls n next)
