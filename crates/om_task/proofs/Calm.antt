-- The rules of every program are calm.
use Rattle.std.proofs.Common.{◌≡◌, subst, ℕ, ◌+◌, ◌≤◌, ℤ, pos, arith, List, [], ◌∷◌}
use Rattle.om_code.specs.declared.raw.Raw.{Raw}
use Rattle.om_code.specs.Places.{instruction_at}
use Rattle.om_foot.specs.declared.object.Obj.{Obj}
use Rattle.om_foot.specs.declared.object.Obj.TheVariants as obj
use Rattle.om_state.specs.declared.control.Context.{Context}
use Rattle.om_state.specs.declared.control.Control as controls
use Rattle.om_state.specs.declared.control.Control.TheVariants.{Idle, Running, Faulted, Ended}
use Rattle.om_state.specs.declared.control.Edit.TheVariants.{Fail}
use Rattle.om_state.specs.declared.step.Label.{Label}
use Rattle.om_state.specs.declared.step.Outcome.TheVariants.{Updates}
use Rattle.om_state.specs.declared.step.Update.{Update}
use Rattle.om_state.specs.declared.step.Update.TheVariants.{Keep, Put, Add, Append, Cut}
use Rattle.om_state.specs.declared.value.Task as tasks
use Rattle.om_state.specs.declared.value.Task.TheVariants as task
use Rattle.om_state.specs.declared.value.Val.{Val}
use Rattle.om_state.specs.declared.value.Val.TheVariants as value
use Rattle.om_state.specs.Edits.{changed}
use Rattle.om_state.specs.Values.{control_in}
use Rattle.om_team_serial.specs.declared.row.Row.{Row}
use Rattle.om_team_serial.specs.declared.row.Row.TheVariants as row
use Rattle.om_team.specs.Counters.{IsWithin, AreWithin, ControlWithin, TaskWithin, ValueWithin}
use Rattle.om_task.specs.Laws.{CalmRules}
use Rattle.om_team_serial.specs.Sites.{site}
use Rattle.om_task.specs.Rules.{start_of, further_in, row_in, outcome_of, outcome_after}
use Rattle.om_task.specs.Steps.{AddOnce, AreModest}
use Rattle.om_task.proofs.Bounds.{AreGentle, RowWithin, ValuesWithin}
use Rattle.om_task.proofs.Counters.{context_more, contexts_more, control_more}
use Rattle.om_task.proofs.Replays.{value_more}
use Rattle.om_task.proofs.Walk.{choice_within, row_within}

-- some number that no counter is above
context_bound : (c : Context) → (n : ℕ) × IsWithin n c
context_bound c = (
  c.births + c.regions + c.phase + c.frames,
  record {
    births = omega arith;
    regions = omega arith;
    phase = omega arith;
    frames = omega arith;
  },
)

contexts_bound : (cs : List Context) → (n : ℕ) × AreWithin n cs
contexts_bound [] = (0, tt)
contexts_bound (c ∷ cs) =
    let a = context_bound c in let b = contexts_bound cs in
    (a.0 + b.0, (context_more a.0 (a.0 + b.0) c (omega arith) a.1, contexts_more b.0 (a.0 + b.0) cs (omega arith) b.1))

control_bound : (c : controls.Control) → (n : ℕ) × ControlWithin n c
control_bound (Running stack) = contexts_bound (stack.top ∷ stack.below)
control_bound (Faulted f stack) = (0, tt)
control_bound (Ended v) = (0, tt)
control_bound Idle = (0, tt)

task_bound : (t : tasks.Task) → (n : ℕ) × TaskWithin n t
task_bound (task.Ready ready) = (ready.phase, omega arith)
task_bound task.Absent = (0, tt)
task_bound (task.Running worker) = (0, tt)
task_bound task.Done = (0, tt)

value_bound : (v : Val) → (n : ℕ) × ValueWithin n v
value_bound (value.Control c) = control_bound c
value_bound (value.Task t) = task_bound t
value_bound (value.Cell c) = (0, tt)
value_bound (value.Count k) = (0, tt)
value_bound (value.Number k) = (0, tt)
value_bound (value.Lock k) = (0, tt)
value_bound (value.Output k) = (0, tt)
value_bound (value.Events k) = (0, tt)

values_more : (n m : ℕ) (vs : List Val) → n ≤ m → ValuesWithin n vs → ValuesWithin m vs
values_more n m [] h w = tt
values_more n m (v ∷ vs) h w = (value_more n m v h w.0, values_more n m vs h w.1)

values_bound : (vs : List Val) → (n : ℕ) × ValuesWithin n vs
values_bound [] = (0, tt)
values_bound (v ∷ vs) =
    let a = value_bound v in let b = values_bound vs in
    (a.0 + b.0, (value_more a.0 (a.0 + b.0) v (omega arith) a.1, values_more b.0 (a.0 + b.0) vs (omega arith) b.1))

modest : (n : ℕ) (us : List Update) → AreGentle n us → AreModest us
modest n [] g = tt
modest n (Put v ∷ us) g = (g.0.0, modest n us g.1)
modest n (Add d ∷ us) g = (g.0, modest n us g.1)
modest n (Keep ∷ us) g = (tt, modest n us g.1)
modest n (Append t ∷ us) g = (tt, modest n us g.1)
modest n (Cut k ∷ us) g = (tt, modest n us g.1)

outcome_modest : (n : ℕ) (c : controls.Control) (r : Row) (us : List Update) → RowWithin n r → outcome_after c r
    ≡ Updates us → AreModest us
outcome_modest n c (row.Goes edits ws) us k e = let same : Put (value.Control (changed edits c)) ∷ ws ≡ us = cc in
    subst AreModest same (tt, modest n ws k.gentle)
outcome_modest n c (row.Faults f) us k e = let same : Put (value.Control (changed (Fail f ∷ []) c)) ∷ []
    ≡ us = cc in subst AreModest same (tt, tt)
outcome_modest n c (row.Blocked b) us k e = cc
outcome_modest n c row.Lacks us k e = cc

values_modest : (program : Raw) (workers : ℕ) (l : Label) (values : List Val) (us : List Update)
    → outcome_of program workers l values ≡ Updates us → AreModest us
values_modest program workers l [] us e = cc
values_modest program workers l (v ∷ values) us e =
    let c = control_in v in
    let a = control_bound c in let b = values_bound values in
    outcome_modest (a.0 + b.0) c (row_in program workers l c values) us
    (row_within (a.0 + b.0) program workers l c values (control_more a.0 (a.0 + b.0) c (omega arith) a.1)
    (values_more b.0 (a.0 + b.0) values (omega arith) b.1)) e

names_once : (program : Raw) (workers : ℕ) (l : Label) (c : controls.Control) → AddOnce (further_in program workers l c)
names_once program workers l (Running stack) = let a = context_bound stack.top in
    (choice_within a.0 (site program workers l.worker stack) (instruction_at program stack.top.frame.body
    stack.top.frame.next) l.choice [] a.1 tt).names
names_once program workers l Idle = tt
names_once program workers l (Faulted f stack) = tt
names_once program workers l (Ended v) = tt

start_calm : (program : Raw) (workers : ℕ) (q : Obj) (n : ℤ) → start_of program workers q ≡ value.Count n → n ≡ pos 0
start_calm program workers (obj.Kids t) n e = cc
start_calm program workers (obj.Pending t p) n e = cc
start_calm program workers (obj.Group t) n e = cc
start_calm program workers (obj.Control w) n e = cc
start_calm program workers (obj.Global v i) n e = cc
start_calm program workers (obj.Cell t f s i) n e = cc
start_calm program workers (obj.Task t) n e = cc
start_calm program workers (obj.Arrived t k) n e = cc
start_calm program workers (obj.Work t k) n e = cc
start_calm program workers (obj.Lock k) n e = cc
start_calm program workers obj.Output n e = cc
start_calm program workers (obj.Events w) n e = cc

pub calm_rules : CalmRules
calm_rules program workers = record {
  start = start_calm program workers;
  once = λ l v. ((λ e. cc), names_once program workers l (control_in v));
  modest = values_modest program workers;
}
