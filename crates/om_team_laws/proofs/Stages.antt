-- How far a task is never falls, so it is begun and ended once.
use Rattle.std.proofs.Common.{◌≡◌, ap, ℕ, ◌≤◌, arith, List, Some, inl, inr}
use Rattle.om_code.specs.declared.raw.Raw.{Raw}
use Rattle.om_state.specs.declared.step.Label.{Label}
use Rattle.om_state.specs.declared.value.Task as tasks
use Rattle.om_state.specs.declared.value.Task.TheVariants as task
use Rattle.om_state.specs.Rules.{next_state, replay_from}
use Rattle.om_state.specs.State.{State}
use Rattle.om_task.specs.Rules.{rules_of}
use Rattle.om_team_laws.specs.Tasks.{GoesOn, IsBegun, IsEnded, IsOrderly, task_at}
use Rattle.om_team_laws.proofs.Replays.{rest_keeps}
use Rattle.om_team_laws.proofs.TaskCases.{step_goes_on}

abbrev stage : tasks.Task → ℕ
stage task.Absent = 0
stage (task.Ready ready) = 1
stage (task.Running worker) = 2
stage task.Done = 3

no_less : (worker : ℕ) (a b : tasks.Task) → GoesOn worker a b → stage a ≤ stage b
no_less worker a b (inl e) = let same = ap stage e in omega (arith, same)
no_less worker a b (inr (inl made)) =
    let x = ap stage made.1 in
    let y = ap stage made.2 in
    omega (arith, x, y)
no_less worker a b (inr (inr (inl begun))) =
    let x = ap stage begun.1 in
    let y = ap stage begun.2 in
    omega (arith, x, y)
no_less worker a b (inr (inr (inr ended))) =
    let x = ap stage ended.0 in
    let y = ap stage ended.1 in
    omega (arith, x, y)

module _ (program : Raw) (workers : ℕ) where
  -- so far at least a task is
  record IsAt (name : List ℕ) (n : ℕ) (s : State) : Type 0 where
    orderly : IsOrderly s
    far : n ≤ stage (task_at s name)

  step_at_least : (name : List ℕ) (n : ℕ) (s t : State) (l : Label) → IsAt name n s
      → next_state (rules_of program workers) s l ≡ Some t → IsAt name n t
  step_at_least name n s t l h is =
      let go = step_goes_on program workers s t l h.orderly is in
      let far = h.far in
      let more = no_less l.worker (task_at s name) (task_at t name) (go.goes name) in
      record { orderly = go.orderly; far = omega (arith, far, more) }

  later : (between : List Label) (s t u : State) (l : Label) (name : List ℕ) (n : ℕ) → IsOrderly s
      → next_state (rules_of program workers) s l ≡ Some t → n ≤ stage (task_at t name)
      → replay_from (rules_of program workers) t between ≡ Some u → n ≤ stage (task_at u name)
  later between s t u l name n h is le e =
      (rest_keeps (rules_of program workers) (IsAt name n) (step_at_least name n) between t u
      (record { orderly = (step_goes_on program workers s t l h is).orderly; far = le }) e).far

  pub begin_once : (between : List Label) (l m : Label) (s t u v : State) (name : List ℕ) → IsOrderly s
      → next_state (rules_of program workers) s l ≡ Some t → IsBegun l.worker (task_at s name) (task_at t name)
      → replay_from (rules_of program workers) t between ≡ Some u
      → IsBegun m.worker (task_at u name) (task_at v name) → ⊥
  begin_once between l m s t u v name h is begun e again =
      let two = ap stage begun.2 in
      let far = later between s t u l name 2 h is (omega (arith, two)) e in
      let one = ap stage again.1 in
      absurd (omega (arith, far, one))

  pub end_once : (between : List Label) (l m : Label) (s t u v : State) (name : List ℕ) → IsOrderly s
      → next_state (rules_of program workers) s l ≡ Some t → IsEnded l.worker (task_at s name) (task_at t name)
      → replay_from (rules_of program workers) t between ≡ Some u
      → IsEnded m.worker (task_at u name) (task_at v name) → ⊥
  end_once between l m s t u v name h is ended e again =
      let three = ap stage ended.1 in
      let far = later between s t u l name 3 h is (omega (arith, three)) e in
      let two = ap stage again.0 in
      absurd (omega (arith, far, two))
