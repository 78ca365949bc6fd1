-- Counters stay below the number of steps.
use Rattle.std.proofs.Common.{◌≡◌, refl, subst, ℕ, ◌+◌, ◌≤◌, arith, Bool, true, false, cond, List, [], ◌∷◌, Option}
use Rattle.std.proofs.Common.{None, Some, length}
use Rattle.om_code.specs.declared.raw.Raw.{Raw}
use Rattle.om_foot.specs.Footprint.{obj_eq}
use Rattle.om_foot.specs.declared.object.Obj.TheVariants as obj
use Rattle.om_foot.specs.declared.footprint.Access.{Access}
use Rattle.om_foot.specs.declared.footprint.Mode.{Mode}
use Rattle.om_foot.specs.declared.footprint.Mode.TheVariants as mode
use Rattle.om_state.specs.declared.control.Control as controls
use Rattle.om_state.specs.declared.control.Control.TheVariants.{Idle, Running}
use Rattle.om_state.specs.declared.control.Edit.TheVariants.{Fail}
use Rattle.om_state.specs.declared.step.Label.{Label}
use Rattle.om_state.specs.declared.step.Tail.{Tail}
use Rattle.om_state.specs.declared.step.Tail.TheVariants as tail
use Rattle.om_state.specs.declared.step.Update.{Update}
use Rattle.om_state.specs.declared.step.Update.TheVariants.{Keep, Put, Add, Append, Cut}
use Rattle.om_state.specs.declared.value.Task as tasks
use Rattle.om_state.specs.declared.value.Task.TheVariants as task
use Rattle.om_state.specs.declared.value.Val.{Val}
use Rattle.om_state.specs.declared.value.Val.TheVariants as value
use Rattle.om_state.specs.Edits.{changed}
use Rattle.om_state.specs.Rules.{step_at, next_state, state_after_outcome, and_then, replay_from}
use Rattle.om_state.specs.State.{State, values_read, value_after, state_after, updated}
use Rattle.om_state.specs.Values.{control_in, value_plus, value_with}
use Rattle.std.specs.Prelude.{ℤ, if◌then◌else◌, nat_eq}
use Rattle.om_team_serial.specs.declared.row.Row.{Row}
use Rattle.om_team_serial.specs.declared.row.Row.TheVariants as row
use Rattle.om_team.specs.Counters.{ControlWithin, TaskWithin, ValueWithin, StateWithin}
use Rattle.om_task.specs.Laws.{LowCounters}
use Rattle.om_task.specs.Rules.{rules_of, start_of, first_context, further_in, row_in, outcome_after}
use Rattle.om_task.proofs.Bounds.{counts, AreGentle, IsGentle, RowWithin}
use Rattle.om_task.proofs.Counters.{control_more, changed_within}
use Rattle.om_team.specs.Within.{control_within}
use Rattle.om_task.proofs.Plans.{values_within}
use Rattle.om_task.proofs.Walk.{row_within}

task_more : (n m : ℕ) (t : tasks.Task) → n ≤ m → TaskWithin n t → TaskWithin m t
task_more n m (task.Ready ready) h w = omega (arith, h, w)
task_more n m task.Absent h w = tt
task_more n m (task.Running worker) h w = tt
task_more n m task.Done h w = tt

pub value_more : (n m : ℕ) (v : Val) → n ≤ m → ValueWithin n v → ValueWithin m v
value_more n m (value.Control c) h w = control_more n m c h w
value_more n m (value.Task t) h w = task_more n m t h w
value_more n m (value.Cell c) h w = tt
value_more n m (value.Count k) h w = tt
value_more n m (value.Number k) h w = tt
value_more n m (value.Lock k) h w = tt
value_more n m (value.Output k) h w = tt
value_more n m (value.Events k) h w = tt

pub state_more : (n m : ℕ) (s : State) → n ≤ m → StateWithin n s → StateWithin m s
state_more n m s h w = λ q. value_more n m (s q) h (w q)

gentle_more : (n m : ℕ) (us : List Update) → n ≤ m → AreGentle n us → AreGentle m us
gentle_more n m [] h g = tt
gentle_more n m (Put v ∷ us) h g = ((g.0.0, value_more n m v h g.0.1), gentle_more n m us h g.1)
gentle_more n m (Add d ∷ us) h g = (g.0, gentle_more n m us h g.1)
gentle_more n m (Keep ∷ us) h g = (tt, gentle_more n m us h g.1)
gentle_more n m (Append t ∷ us) h g = (tt, gentle_more n m us h g.1)
gentle_more n m (Cut k ∷ us) h g = (tt, gentle_more n m us h g.1)

plus_within : (n : ℕ) (d : ℤ) (v : Val) → ValueWithin n v → ValueWithin n (value_plus d v)
plus_within n d (value.Count k) w = tt
plus_within n d (value.Control c) w = w
plus_within n d (value.Task t) w = w
plus_within n d (value.Cell c) w = tt
plus_within n d (value.Number k) w = tt
plus_within n d (value.Lock k) w = tt
plus_within n d (value.Output k) w = tt
plus_within n d (value.Events k) w = tt

with_within : (n : ℕ) (t : Tail) (v : Val) → ValueWithin n v → ValueWithin n (value_with t v)
with_within n (tail.Bytes bytes) (value.Output k) w = tt
with_within n (tail.Bytes bytes) (value.Events k) w = tt
with_within n (tail.Bytes bytes) (value.Count k) w = tt
with_within n (tail.Bytes bytes) (value.Control c) w = w
with_within n (tail.Bytes bytes) (value.Task t) w = w
with_within n (tail.Bytes bytes) (value.Cell c) w = tt
with_within n (tail.Bytes bytes) (value.Number k) w = tt
with_within n (tail.Bytes bytes) (value.Lock k) w = tt
with_within n (tail.Events records) (value.Output k) w = tt
with_within n (tail.Events records) (value.Events k) w = tt
with_within n (tail.Events records) (value.Count k) w = tt
with_within n (tail.Events records) (value.Control c) w = w
with_within n (tail.Events records) (value.Task t) w = w
with_within n (tail.Events records) (value.Cell c) w = tt
with_within n (tail.Events records) (value.Number k) w = tt
with_within n (tail.Events records) (value.Lock k) w = tt

after_within : (n : ℕ) (m : Mode) (u : Update) (old : Val) → IsGentle n u → ValueWithin n old
    → ValueWithin n (value_after m u old)
after_within n mode.Write (Put v) old g w = g.1
after_within n mode.Write (Append t) old g w = with_within n t old w
after_within n mode.Write (Add d) old g w = w
after_within n mode.Write Keep old g w = w
after_within n mode.Write (Cut k) old g w = w
after_within n mode.Add (Add d) old g w = plus_within n d old w
after_within n mode.Add (Put v) old g w = w
after_within n mode.Add (Append t) old g w = w
after_within n mode.Add Keep old g w = w
after_within n mode.Add (Cut k) old g w = w
after_within n mode.Read (Put v) old g w = w
after_within n mode.Read (Append t) old g w = w
after_within n mode.Read (Add d) old g w = w
after_within n mode.Read Keep old g w = w
after_within n mode.Read (Cut k) old g w = w

one_of : (n : ℕ) (b : Bool) (v w : Val) → ValueWithin n v → ValueWithin n w → ValueWithin n (cond b v w)
one_of n true v w h k = h
one_of n false v w h k = k

-- gentle updates leave the counters low
updated_within : (n : ℕ) (accesses : List Access) (us : List Update) (s : State) → AreGentle n us → StateWithin n s
    → StateWithin n (updated accesses us s)
updated_within n [] us s g w = w
updated_within n (a ∷ rest) [] s g w = w
updated_within n (a ∷ rest) (u ∷ us) s g w = updated_within n rest us (state_after a u s) g.1
    (λ q. one_of n (obj_eq a.object q) (value_after a.mode u (s q)) (s q) (after_within n a.mode u (s q) g.0 (w q))
    (w q))

outcome_within : (n : ℕ) (c : controls.Control) (r : Row) (accesses : List Access) (s t : State) → ControlWithin n c
    → RowWithin n r → StateWithin n s → state_after_outcome accesses (outcome_after c r) s ≡ Some t
    → StateWithin (n + 1) t
outcome_within n c (row.Goes edits us) accesses s t w k h e =
    let new : updated accesses (Put (value.Control (changed edits c)) ∷ us) s ≡ t = cc in
    subst (StateWithin (n + 1)) new
    (updated_within (n + 1) accesses (Put (value.Control (changed edits c)) ∷ us) s (
      (
        tt,
        control_more (n + counts edits) (n + 1) (changed edits c) (omega (arith, k.few))
            (changed_within n edits c k.begun w),
      ),
      gentle_more n (n + 1) us (omega arith) k.gentle,
    )
    (state_more n (n + 1) s (omega arith) h))
outcome_within n c (row.Faults f) accesses s t w k h e =
    let new : updated accesses (Put (value.Control (changed (Fail f ∷ []) c)) ∷ []) s ≡ t = cc in
    subst (StateWithin (n + 1)) new
    (updated_within (n + 1) accesses (Put (value.Control (changed (Fail f ∷ []) c)) ∷ []) s (
      (
        tt,
        control_more (n + counts (Fail f ∷ [])) (n + 1) (changed (Fail f ∷ []) c) (omega arith)
            (changed_within n (Fail f ∷ []) c (tt, tt) w),
      ),
      tt,
    )
    (state_more n (n + 1) s (omega arith) h))
outcome_within n c (row.Blocked b) accesses s t w k h e = cc
outcome_within n c row.Lacks accesses s t w k h e = cc

-- a step raises no counter by more than one
step_within : (program : Raw) (workers n : ℕ) (s t : State) (l : Label) → StateWithin n s
    → next_state (rules_of program workers) s l ≡ Some t → StateWithin (n + 1) t
unfolding step_at
step_within program workers n s t l h e =
    let c : controls.Control = control_in (s (obj.Control l.worker)) in
    let names : List Access = further_in program workers l c in
    let w : ControlWithin n c = control_within n l.worker s c refl h in
    outcome_within n c (row_in program workers l c (values_read names s)) (step_at (rules_of program workers) s
    l).footprint s t w (row_within n program workers l c (values_read names s) w (values_within n names s h)) h e

then_within : (n : ℕ) (o : Option State) (f : State → Option State) (t : State)
    → ((u : State) → o ≡ Some u → f u ≡ Some t → StateWithin n t) → and_then o f ≡ Some t → StateWithin n t
then_within n None f t h e = cc
then_within n (Some u) f t h e = h u refl e

replay_within : (program : Raw) (workers n m : ℕ) (ls : List Label) (s t : State) → StateWithin n s
    → replay_from (rules_of program workers) s ls ≡ Some t → n + length ls ≤ m → StateWithin m t
replay_within program workers n m [] s t h e few = let same : s ≡ t = cc in subst (StateWithin m) same
    (state_more n m s (omega (arith, few)) h)
replay_within program workers n m (l ∷ ls) s t h e few =
    then_within m (next_state (rules_of program workers) s l) (λ u. replay_from (rules_of program workers) u ls) t
    (λ u is rest. replay_within program workers (n + 1) m ls u t (step_within program workers n s u l h is) rest
    (omega (arith, few))) e

first_within : (program : Raw) (b : Bool) → ControlWithin 0
    (if b then Running (record { top = first_context program; below = [] }) else Idle)
first_within program true = (
  record {
    births = omega arith;
    regions = omega arith;
    phase = omega arith;
    frames = omega arith;
  },
  tt,
)
first_within program false = tt

start_within : (program : Raw) (workers : ℕ) → StateWithin 0 (start_of program workers)
start_within program workers (obj.Control worker) = first_within program (nat_eq worker 0)
start_within program workers (obj.Global v i) = tt
start_within program workers (obj.Cell t f s i) = tt
start_within program workers (obj.Task t) = tt
start_within program workers (obj.Kids t) = tt
start_within program workers (obj.Pending t p) = tt
start_within program workers (obj.Arrived t n) = tt
start_within program workers (obj.Work t n) = tt
start_within program workers (obj.Lock n) = tt
start_within program workers (obj.Group t) = tt
start_within program workers obj.Output = tt
start_within program workers (obj.Events w) = tt

pub low_counters : LowCounters
low_counters program workers n ls s e few = replay_within program workers 0 n ls (start_of program workers) s
    (start_within program workers) e (omega (arith, few))
