-- A step leads from a state that stands to one that stands, and the start stands.
use Rattle.std.proofs.Common.{◌≡◌, refl, inl, inr, sym, subst, ℕ, ◌≤◌, arith, Bool, true, false, List, [], ◌∷◌, Some}
use Rattle.std.specs.Prelude.{◌⊎◌, if◌then◌else◌, nat_eq}
use Rattle.om_foot.specs.Footprint.{obj_eq}
use Rattle.om_foot.specs.declared.object.Obj.{Obj}
use Rattle.om_foot.specs.declared.object.Obj.TheVariants as obj
use Rattle.om_foot.specs.declared.footprint.Access.{Access}
use Rattle.om_code.specs.declared.raw.Raw.{Raw}
use Rattle.om_code.specs.Validity.{IsValid, NamesKnown}
use Rattle.om_state.specs.declared.control.Control as controls
use Rattle.om_state.specs.declared.control.Control.TheVariants.{Idle, Running, Faulted, Ended}
use Rattle.om_state.specs.declared.control.Stack.{Stack}
use Rattle.om_state.specs.declared.control.Edit.{Edit}
use Rattle.om_state.specs.declared.control.Edit.TheVariants.{Fail}
use Rattle.om_state.specs.declared.step.Label.{Label}
use Rattle.om_state.specs.declared.step.Update.{Update}
use Rattle.om_state.specs.declared.step.Update.TheVariants.{Put}
use Rattle.om_state.specs.declared.value.Task as tasks
use Rattle.om_state.specs.declared.value.Task.TheVariants as task
use Rattle.om_state.specs.declared.value.Val.{Val}
use Rattle.om_state.specs.declared.value.Val.TheVariants as value
use Rattle.om_state.specs.Edits.{changed}
use Rattle.om_state.specs.Rules.{control_access, step_at, next_state, state_after_outcome}
use Rattle.om_state.specs.State.{State, values_read, state_after, updated}
use Rattle.om_state.specs.Values.{control_in, task_in}
use Rattle.om_team_serial.specs.Objects.{write}
use Rattle.om_team_serial.specs.declared.row.Row.{Row}
use Rattle.om_team_serial.specs.declared.row.Row.TheVariants as row
use Rattle.om_task.specs.Rules.{rules_of, start_of, first_context, further_in, row_in, outcome_after}
use Rattle.om_soundness.specs.Laws.{HasItsNeeds}
use Rattle.om_soundness.specs.Standing.{Owned, FitHomes, IsStandingControl, IsStandingTask, IsStandingValue, IsStanding}
use Rattle.om_soundness.specs.Standing.{IsNotReady, HasParent}
use Rattle.om_soundness.proofs.Updates.{IsOfAll, one_of, weaker, updated_at}
use Rattle.om_soundness.proofs.Bounds.{StandsAnywhere, AllPutStanding, RowStands, MakesTask, RowMakes}
use Rattle.om_soundness.proofs.Bounds.{RowBehind, changed_stands}
use Rattle.om_soundness.proofs.Going.{stands_at, found_slots}
use Rattle.om_soundness.proofs.Homes.{WorkerHasOwn, WorkersHaveOwn, around_none, begins}
use Rattle.om_soundness.proofs.Walk.{row_stands}

control_stands : (program : Raw) (owned : Owned) (v : Val) → IsStandingValue program owned v
    → IsStandingControl program owned (control_in v)
control_stands program owned (value.Control c) h = h
control_stands program owned (value.Task c) h = tt
control_stands program owned (value.Cell c) h = tt
control_stands program owned (value.Count k) h = tt
control_stands program owned (value.Number k) h = tt
control_stands program owned (value.Lock k) h = tt
control_stands program owned (value.Output k) h = tt
control_stands program owned (value.Events k) h = tt

-- ---- a state after updates

-- what stands wherever it is put stands, and is no task that is ready
anywhere_stands : (program : Raw) (owned : Owned) (v : Val) → StandsAnywhere program owned v
    → IsStandingValue program owned v
anywhere_stands program owned (value.Control c) h = h
anywhere_stands program owned (value.Task (task.Ready r)) h = absurd h
anywhere_stands program owned (value.Task task.Absent) h = tt
anywhere_stands program owned (value.Task (task.Running w)) h = tt
anywhere_stands program owned (value.Task task.Done) h = tt
anywhere_stands program owned (value.Cell c) h = tt
anywhere_stands program owned (value.Count k) h = tt
anywhere_stands program owned (value.Number k) h = tt
anywhere_stands program owned (value.Lock k) h = tt
anywhere_stands program owned (value.Output k) h = tt
anywhere_stands program owned (value.Events k) h = tt

anywhere_unready : (program : Raw) (owned : Owned) (v : Val) → StandsAnywhere program owned v
    → IsNotReady (task_in v)
anywhere_unready program owned (value.Control c) h = tt
anywhere_unready program owned (value.Task t) h = h
anywhere_unready program owned (value.Cell c) h = tt
anywhere_unready program owned (value.Count k) h = tt
anywhere_unready program owned (value.Number k) h = tt
anywhere_unready program owned (value.Lock k) h = tt
anywhere_unready program owned (value.Output k) h = tt
anywhere_unready program owned (value.Events k) h = tt

stands_of_all : (program : Raw) (owned : Owned) → IsOfAll (IsStandingValue program owned)
stands_of_all program owned = record { counts = λ n. tt; outputs = λ bytes. tt; events = λ records. tt }

abbrev IsUnready : Val → Type 0
IsUnready v = IsNotReady (task_in v)

unready_of_all : IsOfAll IsUnready
unready_of_all = record { counts = λ n. tt; outputs = λ bytes. tt; events = λ records. tt }

updated_stands : (program : Raw) (owned : Owned) (accesses : List Access) (us : List Update) (s : State)
    → AllPutStanding program owned us → IsStanding program owned s → IsStanding program owned (updated accesses us s)
updated_stands program owned accesses us s p h = record {
  values = λ q. updated_at (IsStandingValue program owned) (stands_of_all program owned) accesses us s q
      (weaker (StandsAnywhere program owned) (IsStandingValue program owned) (anywhere_stands program owned) us p)
      (h.values q);
  root = updated_at IsUnready unready_of_all accesses us s (obj.Task [])
      (weaker (StandsAnywhere program owned) IsUnready (anywhere_unready program owned) us p) h.root;
}

-- a task that becomes ready under a name with a number
ready_root : (name : List ℕ) (v : Val) (s : State) → HasParent name → IsNotReady (task_in (s (obj.Task [])))
    → IsNotReady (task_in (state_after (write (obj.Task name)) (Put v) s (obj.Task [])))
ready_root [] v s n h = absurd (n refl)
ready_root (k ∷ name) v s n h = h

made_stands : (program : Raw) (owned : Owned) (name : List ℕ) (t : tasks.Task) (s : State) → HasParent name
    → IsStandingTask program owned t → IsStanding program owned s
    → IsStanding program owned (state_after (write (obj.Task name)) (Put (value.Task t)) s)
made_stands program owned name t s n k h = record {
  values = λ q. one_of (IsStandingValue program owned) (obj_eq (obj.Task name) q) (value.Task t) (s q) k (h.values q);
  root = ready_root name (value.Task t) s n h.root;
}

-- ---- a step

-- behind the row of a control the worker stands, and so does what is put
abbrev Stands : Raw → Owned → controls.Control → Row → Type 0
Stands program owned c (row.Goes edits us) =
    IsStandingControl program owned (changed edits c) × AllPutStanding program owned us
Stands program owned c _ = Unit {0}

abbrev Leaves : Raw → Owned → controls.Control → List Access → Row → Type 0
Leaves program owned c names r = Stands program owned c r ⊎ RowMakes program owned c names r

stands : (program : Raw) (owned : Owned) (stack : Stack) (r : Row) → RowStands program owned stack r
    → Stands program owned (Running stack) r
stands program owned stack (row.Goes edits us) h = h
stands program owned stack (row.Faults f) h = tt
stands program owned stack (row.Blocked b) h = tt
stands program owned stack row.Lacks h = tt

leaves : (program : Raw) (owned : Owned) (stack : Stack) (names : List Access) (r : Row)
    → RowBehind program owned stack names r → Leaves program owned (Running stack) names r
leaves program owned stack names r (inl h) = inl (stands program owned stack r h)
leaves program owned stack names r (inr h) = inr h

row_leaves : (program : Raw) (owned : Owned) (workers : ℕ) (l : Label) (c : controls.Control) (s : State)
    → IsValid program → 1 ≤ workers → WorkerHasOwn program owned c → IsStandingControl program owned c
    → IsStanding program owned s → Leaves program owned c (further_in program workers l c)
    (row_in program workers l c (values_read (further_in program workers l c) s))
row_leaves program owned workers l (Running stack) s valid some own h v =
    leaves program owned stack (further_in program workers l (Running stack))
    (row_in program workers l (Running stack) (values_read (further_in program workers l (Running stack)) s))
    (row_stands owned program workers l stack s valid some own h v)
row_leaves program owned workers l Idle s valid some own h v = inl tt
row_leaves program owned workers l (Faulted fault stack) s valid some own h v = inl tt
row_leaves program owned workers l (Ended result) s valid some own h v = inl tt

-- the state behind a step that makes a task ready
makes_stands : (program : Raw) (owned : Owned) (c : controls.Control) (edits : List Edit) (us : List Update)
    (l : Label) (names : List Access) (s : State) → MakesTask program owned c names edits us
    → IsStanding program owned s
    → IsStanding program owned
    (updated (control_access l ∷ names) (Put (value.Control (changed edits c)) ∷ us) s)
makes_stands program owned c edits us l names s m h =
    let v : Val = value.Control (changed edits c) in
    let first : IsStanding program owned (state_after (control_access l) (Put v) s) =
    updated_stands program owned (control_access l ∷ []) (Put v ∷ []) s (m.control, tt) h in
    let t : State = state_after (control_access l) (Put v) s in
    subst (λ (ns : List Access). IsStanding program owned (updated ns us t)) (sym m.first)
    (subst (λ (ws : List Update). IsStanding program owned (updated (write (obj.Task m.name) ∷ m.rest) ws t))
    (sym m.puts)
    (updated_stands program owned m.rest m.others
    (state_after (write (obj.Task m.name)) (Put (value.Task m.task)) t) m.besides
    (made_stands program owned m.name m.task t m.named m.stands first)))

outcome_stands : (program : Raw) (owned : Owned) (c : controls.Control) (r : Row) (l : Label) (names : List Access)
    (s t : State) → IsStandingControl program owned c → Leaves program owned c names r → IsStanding program owned s
    → state_after_outcome (control_access l ∷ names) (outcome_after c r) s ≡ Some t → IsStanding program owned t
outcome_stands program owned c (row.Goes edits us) l names s t w (inl k) h e =
    let new : updated (control_access l ∷ names) (Put (value.Control (changed edits c)) ∷ us) s ≡ t = cc in
    subst (IsStanding program owned) new
    (updated_stands program owned (control_access l ∷ names) (Put (value.Control (changed edits c)) ∷ us) s k h)
outcome_stands program owned c (row.Goes edits us) l names s t w (inr k) h e =
    let new : updated (control_access l ∷ names) (Put (value.Control (changed edits c)) ∷ us) s ≡ t = cc in
    subst (IsStanding program owned) new (makes_stands program owned c edits us l names s k h)
outcome_stands program owned c (row.Faults f) l names s t w k h e =
    let new : updated (control_access l ∷ names) (Put (value.Control (changed (Fail f ∷ []) c)) ∷ []) s ≡ t = cc in
    subst (IsStanding program owned) new
    (updated_stands program owned (control_access l ∷ names) (Put (value.Control (changed (Fail f ∷ []) c)) ∷ []) s
    (changed_stands program owned (Fail f ∷ []) c (tt, tt) w, tt) h)
outcome_stands program owned c (row.Blocked b) l names s t w k h e = cc
outcome_stands program owned c row.Lacks l names s t w k h e = cc

pub step_stands : (program : Raw) (owned : Owned) (workers : ℕ) (s t : State) (l : Label) → IsValid program
    → 1 ≤ workers → WorkersHaveOwn program owned s → IsStanding program owned s
    → next_state (rules_of program workers) s l ≡ Some t → IsStanding program owned t
unfolding step_at
step_stands program owned workers s t l valid some own h e =
    let c : controls.Control = control_in (s (obj.Control l.worker)) in
    let names : List Access = further_in program workers l c in
    let w : IsStandingControl program owned c =
    control_stands program owned (s (obj.Control l.worker)) (h.values (obj.Control l.worker)) in
    outcome_stands program owned c (row_in program workers l c (values_read names s)) l names s t w
    (row_leaves program owned workers l c s valid some (own l.worker) w h) h e

-- ---- the start

first_stands : (program : Raw) (owned : Owned) (b : Bool) → IsValid program
    → IsStandingControl program owned
    (if b then Running (record { top = first_context program; below = [] }) else Idle)
first_stands program owned true valid = (
  record {
    frame = begins program owned [] [] (0 ∷ []) 0 program.main 0 0
        (around_none owned (0 ∷ []) 0 []) valid.tables.main;
    callers = tt;
    member = omega arith;
    named = λ e. cc;
  },
  tt,
)
first_stands program owned false valid = tt

start_values : (program : Raw) (owned : Owned) (workers : ℕ) → IsValid program → (q : Obj)
    → IsStandingValue program owned (start_of program workers q)
start_values program owned workers valid (obj.Control worker) = first_stands program owned (nat_eq worker 0) valid
start_values program owned workers valid (obj.Global v i) = tt
start_values program owned workers valid (obj.Cell t f s i) = tt
start_values program owned workers valid (obj.Task t) = tt
start_values program owned workers valid (obj.Kids t) = tt
start_values program owned workers valid (obj.Pending t p) = tt
start_values program owned workers valid (obj.Arrived t n) = tt
start_values program owned workers valid (obj.Work t n) = tt
start_values program owned workers valid (obj.Lock n) = tt
start_values program owned workers valid (obj.Group t) = tt
start_values program owned workers valid obj.Output = tt
start_values program owned workers valid (obj.Events w) = tt

pub start_stands : (program : Raw) (owned : Owned) (workers : ℕ) → IsValid program
    → IsStanding program owned (start_of program workers)
start_stands program owned workers valid = record { values = start_values program owned workers valid; root = tt }

-- ---- what a stack that stands has

pub has_its_needs : (program : Raw) (owned : Owned) (stack : Stack) → IsValid program
    → IsStandingControl program owned (Running stack) → HasItsNeeds program owned stack
has_its_needs program owned stack valid h =
    let f = stands_at program owned stack.top.frame valid h.0.frame in
    let same = sym (found_slots program stack.top.frame.body f.2.body f.2.found) in
    record {
      instruction = f.0;
      there = f.1;
      operands = omega (arith, f.2.operands);
      names = subst (λ slots. NamesKnown program slots f.0) same f.2.names;
      homes = subst (λ slots. FitHomes owned slots stack.top.frame.homes) same f.2.homes;
      member = h.0.member;
      named = h.0.named;
    }
