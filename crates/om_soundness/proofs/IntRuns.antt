-- Every step keeps ints, the start has them, and so does every state of a run.
use Rattle.std.proofs.Common.{◌≡◌, refl, subst, ℕ, ◌+◌, ◌^◌, arith, Bool, true, false, List, [], ◌∷◌, Option, None, Some, option_map}
use Rattle.std.specs.Prelude.{All, IfSome, ℤ, pos, if◌then◌else◌, nat_eq, slice_get, option_and_then, unwrap_or}
use Rattle.std.proofs.lemmas.Bool.{lt-ltb}
use Rattle.std.proofs.lemmas.List.Elements.{All-nil, All-cons}
use Rattle.om_foot.specs.declared.footprint.Access.{Access}
use Rattle.om_foot.specs.declared.footprint.Mode.{Mode}
use Rattle.om_foot.specs.declared.footprint.Mode.TheVariants as mode
use Rattle.om_foot.specs.declared.object.Obj.TheVariants as obj
use Rattle.om_code.specs.declared.frame.Operand.TheVariants.{Int, NoValue}
use Rattle.om_code.specs.declared.instruction.Instr.{Instr}
use Rattle.om_code.specs.declared.instruction.Instr.TheVariants as i
use Rattle.om_code.specs.declared.instruction.Function.TheVariants as calls
use Rattle.om_code.specs.declared.instruction.Team.TheVariants as teams
use Rattle.om_code.specs.declared.instruction.Sharing.TheVariants as sharings
use Rattle.om_code.specs.declared.instruction.Region.TheVariants as regionals
use Rattle.om_code.specs.declared.instruction.Task.TheVariants as taskings
use Rattle.om_code.specs.declared.raw.Body.{Body}
use Rattle.om_code.specs.declared.raw.GlobalVariable.{GlobalVariable}
use Rattle.om_code.specs.declared.raw.Line.{Line}
use Rattle.om_code.specs.declared.raw.Raw.{Raw}
use Rattle.om_code.specs.Frames.{int_at}
use Rattle.om_code.specs.Places.{instruction_at}
use Rattle.om_code.specs.Printing.{ints_on}
use Rattle.om_state.specs.declared.control.Control as controls
use Rattle.om_state.specs.declared.control.Control.TheVariants.{Idle, Running, Faulted, Ended}
use Rattle.om_state.specs.declared.control.Team.{Team}
use Rattle.om_state.specs.declared.control.Edit.TheVariants.{Fail}
use Rattle.om_state.specs.declared.step.Choice.{Choice}
use Rattle.om_state.specs.declared.step.Choice.TheVariants.{Next, Start}
use Rattle.om_state.specs.declared.step.Label.{Label}
use Rattle.om_state.specs.declared.step.Update.TheVariants.{Put}
use Rattle.om_state.specs.declared.value.Val.{Val}
use Rattle.om_state.specs.declared.value.Val.TheVariants as value
use Rattle.om_state.specs.Edits.{changed}
use Rattle.om_state.specs.Rules.{control_access, step_at, next_state, state_after_outcome, and_then, replay_from}
use Rattle.om_state.specs.State.{State, values_read, read_by, updated}
use Rattle.om_state.specs.Values.{control_in}
use Rattle.om_team_serial.specs.declared.row.Row.{Row}
use Rattle.om_team_serial.specs.declared.row.Row.TheVariants as row
use Rattle.om_team_serial.specs.Objects.{innermost}
use Rattle.om_team_worksharing.specs.Rows.{share_in}
use Rattle.om_team_serial.specs.Sites.{Site, site, context, operands, next, slots, line, launch, body_of, lock_of, targets_of}
use Rattle.om_task.specs.Rules.{rules_of, start_of, first_context, initial_in, choice_row, leaving, admits_all}
use Rattle.om_task.specs.Rules.{further_in, row_in, outcome_after}
use Rattle.om_task.specs.Table.{row_of}
use Rattle.om_soundness.specs.Ints.{IsInt, HasIntConstant, HasIntConstants, IsOfInts, AreFew, IsIntOperand, FrameHasInts}
use Rattle.om_soundness.specs.Ints.{ConstructHasInts, ContextHasInts, StackHasInts, ControlHasInts}
use Rattle.om_soundness.specs.Ints.{ValueHasInts, HasInts, IsSmall}
use Rattle.om_soundness.specs.Laws.{StepsKeepInts}
use Rattle.om_soundness.proofs.IntEdits.{AskedHasInts, RowHasInts, changed_ints, updated_ints}
use Rattle.om_soundness.proofs.IntTurns.{serial_ints}
use Rattle.om_soundness.proofs.IntValues.{found_one, at_int, as_operand, on_ints}
use Rattle.om_soundness.proofs.IntShares.{loop_row_ints, sections_ints, innermost_ints, grab_ints, iterate_ints, pick_ints}
use Rattle.om_soundness.proofs.IntShares.{single_ints, end_worksharing_ints, masked_ints, end_masked_ints}
use Rattle.om_soundness.proofs.IntShares.{enter_critical_ints, leave_critical_ints}
use Rattle.om_soundness.proofs.IntTasks.{call_ints, return_ints, reduce_ints, fork_ints, arrive_ints, depart_ints}
use Rattle.om_soundness.proofs.IntTasks.{leave_ints, finish_ints, spawn_ints, task_end_ints, wait_end_ints}
use Rattle.om_soundness.proofs.IntTasks.{group_begin_ints, group_end_ints, start_ints}

-- ---- the instruction at a place

line_of : (o : Option Body) (at : ℕ) → IfSome o HasIntConstants
    → IfSome (option_and_then (λ (b : Body). slice_get b.code at) o) (λ line. HasIntConstant line.instruction)
line_of None at h = tt
line_of (Some body) at h = found_one (λ (line : Line). HasIntConstant line.instruction) body.code at h

instruction_of : (o : Option Line) → IfSome o (λ line. HasIntConstant line.instruction)
    → IfSome (option_map (λ (line : Line). line.instruction) o) HasIntConstant
instruction_of None h = tt
instruction_of (Some line) h = h

constant_int : (program : Raw) (body at : ℕ) → IsOfInts program
    → IfSome (instruction_at program body at) HasIntConstant
constant_int program body at ints =
    instruction_of (option_and_then (λ (b : Body). slice_get b.code at) (slice_get program.bodies body))
    (line_of (slice_get program.bodies body) at
    (found_one (λ (b : Body). HasIntConstants b) program.bodies body ints.constants))

-- ---- the row of a choice

thread_int : (team : Team) → IsSmall team → IsInt (pos team.number)
thread_int team m = lt-ltb team.number (2 ^ 31) (omega (arith, m.number, m.size))

instruction_ints : (s : Site) (instr : Instr) (values : List Val) → HasIntConstant instr → AreFew s.workers
    → StackHasInts s.stack → All ValueHasInts values → AskedHasInts (row_of s instr) values
instruction_ints s (i.Team teams.ThreadNumber) values k few h v = ((thread_int (context s).team h.0.3, tt), tt)
instruction_ints s (i.Team teams.TeamSize) values k few h v = ((lt-ltb (context s).team.size (2 ^ 31) h.0.3.size, tt), tt)
instruction_ints s (i.Function (calls.Call body count)) values k few h v =
    call_ints (launch s count body) (body_of s.program body) (context s) (ints_on count (operands s)) values
    (on_ints count (operands s) h.0.0)
instruction_ints s (i.Function calls.Return) values k few h v =
    return_ints (context s) (slots s) (context s).callers (option_map Int (int_at 0 (operands s))) values
    (as_operand (int_at 0 (operands s)) (at_int 0 (operands s) h.0.0))
instruction_ints s (i.Function calls.ReturnNothing) values k few h v =
    return_ints (context s) (slots s) (context s).callers (Some NoValue) values tt
instruction_ints s (i.Sharing (sharings.Reduce reduction copy place)) values k few h v =
    reduce_ints (context s) reduction copy place values v
instruction_ints s (i.Team (teams.Fork body true count)) values k few h v =
    fork_ints s.worker s.workers (launch s (count + 1) body) (body_of s.program body) (context s) true
    (int_at count (operands s)) (ints_on count (operands s)) values few (on_ints count (operands s) h.0.0)
instruction_ints s (i.Team (teams.Fork body false count)) values k few h v =
    fork_ints s.worker s.workers (launch s count body) (body_of s.program body) (context s) false
    (int_at count (operands s)) (ints_on count (operands s)) values few (on_ints count (operands s) h.0.0)
instruction_ints s (i.Team teams.Begin) values k few h v = ((tt, tt), (tt, tt))
instruction_ints s (i.Team (teams.Arrive barrier)) values k few h v = arrive_ints s.worker (next s) barrier (context s) values
instruction_ints s (i.Team (teams.Depart barrier)) values k few h v = depart_ints s.worker (next s) barrier (context s) values
instruction_ints s (i.Team teams.Leave) values k few h v =
    leave_ints s.worker (context s) s.stack.below (slots s) (context s).kind (context s).team.number values
instruction_ints s (i.Sharing (sharings.Loop form)) values k few h v =
    loop_row_ints s.worker (next s) (context s) form (int_at 1 (operands s)) (int_at 0 (operands s)) values
    (at_int 1 (operands s) h.0.0) (at_int 0 (operands s) h.0.0)
instruction_ints s (i.Sharing (sharings.Sections count)) values k few h v = sections_ints s.worker (next s) (context s) count values
instruction_ints s (i.Sharing (sharings.Grab otherwise)) values k few h v =
    grab_ints (next s) otherwise (context s) (share_in (context s)) values
    (innermost_ints (context s).constructs h.0.2)
instruction_ints s (i.Sharing (sharings.Iterate slot otherwise)) values k few h v =
    iterate_ints (next s) otherwise (context s) slot (share_in (context s)) values
    (innermost_ints (context s).constructs h.0.2)
instruction_ints s (i.Sharing (sharings.Pick list)) values k few h v =
    pick_ints (targets_of s.program list) (share_in (context s)) values
instruction_ints s (i.Sharing (sharings.Single otherwise)) values k few h v =
    single_ints s.worker (next s) otherwise (context s) values
instruction_ints s (i.Sharing sharings.EndWorksharing) values k few h v =
    end_worksharing_ints s.worker (next s) (context s) (innermost (context s).constructs) values
instruction_ints s (i.Region (regionals.Masked otherwise)) values k few h v =
    masked_ints s.worker (next s) otherwise (context s) (int_at 0 (operands s)) values
instruction_ints s (i.Region regionals.EndMasked) values k few h v =
    end_masked_ints s.worker (next s) (context s) (innermost (context s).constructs) values
instruction_ints s (i.Region (regionals.AskCritical lock)) values k few h v = ((tt, tt), (tt, tt))
instruction_ints s (i.Region (regionals.EnterCritical lock)) values k few h v =
    enter_critical_ints s.worker (next s) lock (lock_of s.program lock) values
instruction_ints s (i.Region (regionals.LeaveCritical lock)) values k few h v =
    leave_critical_ints s.worker (next s) lock (lock_of s.program lock) (innermost (context s).constructs) values
instruction_ints s (i.Task (taskings.Spawn body count)) values k few h v =
    spawn_ints (record { worker = s.worker; line = line s; launch = launch s count body }) (body_of s.program body)
    (context s) values h.0.0
instruction_ints s (i.Task taskings.TaskEnd) values k few h v = task_end_ints s.worker s.stack (slots s) values
instruction_ints s (i.Task taskings.WaitBegin) values k few h v = ((tt, tt), (tt, tt))
instruction_ints s (i.Task taskings.WaitEnd) values k few h v = wait_end_ints s.worker (next s) (context s) values
instruction_ints s (i.Task taskings.Yield) values k few h v = ((tt, tt), tt)
instruction_ints s (i.Task taskings.GroupBegin) values k few h v = group_begin_ints s.worker (next s) (context s) values
instruction_ints s (i.Task taskings.GroupEnd) values k few h v = group_end_ints s.worker (next s) (context s) values
instruction_ints s (i.Function (calls.Finish has_value)) values k few h v = finish_ints s.worker (context s) has_value values
instruction_ints s (i.Serial x) values k few h v = serial_ints s.program (context s) x values k h.0.0 v

choice_ints : (s : Site) (o : Option Instr) (choice : Choice) (values : List Val) → IfSome o HasIntConstant
    → AreFew s.workers → StackHasInts s.stack → All ValueHasInts values → AskedHasInts (choice_row s o choice) values
choice_ints s None Next values k few h v = tt
choice_ints s (Some instr) Next values k few h v = instruction_ints s instr values k few h v
choice_ints s o (Start name) values k few h v =
    start_ints
    (record {
      worker = s.worker;
      status = leaving o;
      admits = admits_all s.program name
          (s.stack.top ∷ s.stack.below);
    }) name s.stack.top values h.0.3

row_ints : (program : Raw) (workers : ℕ) (l : Label) (c : controls.Control) (values : List Val) → IsOfInts program
    → AreFew workers → ControlHasInts c → All ValueHasInts values → RowHasInts (row_in program workers l c values)
row_ints program workers l (Running stack) values ints few h v =
    choice_ints (site program workers l.worker stack)
    (instruction_at program stack.top.frame.body stack.top.frame.next) l.choice values
    (constant_int program stack.top.frame.body stack.top.frame.next ints) few h v
row_ints program workers l Idle values ints few h v = tt
row_ints program workers l (Faulted fault stack) values ints few h v = tt
row_ints program workers l (Ended result) values ints few h v = tt

-- ---- a step

read_one : (m : Mode) (v : Val) (values : List Val) → ValueHasInts v → All ValueHasInts values
    → All ValueHasInts (read_by m v values)
read_one mode.Add v values h k = k
read_one mode.Read v values h k = All-cons ValueHasInts v values h k
read_one mode.Write v values h k = All-cons ValueHasInts v values h k

read_ints : (names : List Access) (s : State) → HasInts s → All ValueHasInts (values_read names s)
read_ints [] s h = All-nil ValueHasInts
read_ints (a ∷ rest) s h = read_one a.mode (s a.object) (values_read rest s) (h a.object) (read_ints rest s h)

pub control_ints : (v : Val) → ValueHasInts v → ControlHasInts (control_in v)
control_ints (value.Control c) h = h
control_ints (value.Task t) h = tt
control_ints (value.Cell c) h = tt
control_ints (value.Count k) h = tt
control_ints (value.Number k) h = tt
control_ints (value.Lock k) h = tt
control_ints (value.Output k) h = tt
control_ints (value.Events k) h = tt

outcome_ints : (c : controls.Control) (r : Row) (l : Label) (names : List Access) (s t : State) → ControlHasInts c
    → RowHasInts r → HasInts s → state_after_outcome (control_access l ∷ names) (outcome_after c r) s ≡ Some t
    → HasInts t
outcome_ints c (row.Goes edits us) l names s t w k h e =
    let new : updated (control_access l ∷ names) (Put (value.Control (changed edits c)) ∷ us) s ≡ t = cc in
    subst HasInts new
    (updated_ints (control_access l ∷ names) (Put (value.Control (changed edits c)) ∷ us) s
    (changed_ints edits c k.0 w, k.1) h)
outcome_ints c (row.Faults f) l names s t w k h e =
    let new : updated (control_access l ∷ names) (Put (value.Control (changed (Fail f ∷ []) c)) ∷ []) s ≡ t = cc in
    subst HasInts new
    (updated_ints (control_access l ∷ names) (Put (value.Control (changed (Fail f ∷ []) c)) ∷ []) s
    (changed_ints (Fail f ∷ []) c (tt, tt) w, tt) h)
outcome_ints c (row.Blocked b) l names s t w k h e = cc
outcome_ints c row.Lacks l names s t w k h e = cc

pub step_ints : (program : Raw) (workers : ℕ) (s t : State) (l : Label) → IsOfInts program → AreFew workers
    → HasInts s → next_state (rules_of program workers) s l ≡ Some t → HasInts t
unfolding step_at
step_ints program workers s t l ints few h e =
    let c : controls.Control = control_in (s (obj.Control l.worker)) in
    let names : List Access = further_in program workers l c in
    let w : ControlHasInts c = control_ints (s (obj.Control l.worker)) (h (obj.Control l.worker)) in
    outcome_ints c (row_in program workers l c (values_read names s)) l names s t w
    (row_ints program workers l c (values_read names s) ints few w (read_ints names s h)) h e

-- ---- the start

first_ints : (program : Raw) (b : Bool)
    → ControlHasInts (if b then Running (record { top = first_context program; below = [] }) else Idle)
first_ints program true = (
  (
    All-nil IsIntOperand,
    All-nil FrameHasInts,
    All-nil ConstructHasInts,
    record { number = omega arith; size = omega arith },
  ),
  All-nil ContextHasInts,
)
first_ints program false = tt

initial_int : (o : Option GlobalVariable) → IfSome o (λ global. IsInt global.initial) → IsInt (initial_in o)
initial_int None h = refl
initial_int (Some global) h = scalar global.length
  where
    scalar : (length : Option ℕ) → IsInt (unwrap_or (option_map (λ _. pos 0) length) global.initial)
    scalar None = h
    scalar (Some n) = refl

if_int : (b : Bool) (v : ℤ) → IsInt v → IsInt (if b then v else pos 0)
if_int true v h = h
if_int false v h = refl

pub start_has_ints : (program : Raw) (workers : ℕ) → IsOfInts program → HasInts (start_of program workers)
start_has_ints program workers ints (obj.Control worker) = first_ints program (nat_eq worker 0)
start_has_ints program workers ints (obj.Global v k) =
    if_int (nat_eq k 0) (initial_in (slice_get program.globals v))
    (initial_int (slice_get program.globals v)
    (found_one (λ (global : GlobalVariable). IsInt global.initial) program.globals v ints.globals))
start_has_ints program workers ints (obj.Cell t f s k) = tt
start_has_ints program workers ints (obj.Task t) = tt
start_has_ints program workers ints (obj.Kids t) = tt
start_has_ints program workers ints (obj.Pending t p) = tt
start_has_ints program workers ints (obj.Arrived t n) = tt
start_has_ints program workers ints (obj.Work t n) = tt
start_has_ints program workers ints (obj.Lock n) = tt
start_has_ints program workers ints (obj.Group t) = tt
start_has_ints program workers ints obj.Output = tt
start_has_ints program workers ints (obj.Events w) = tt

-- ---- a run

then_ints : (o : Option State) (f : State → Option State) (t : State)
    → ((u : State) → o ≡ Some u → f u ≡ Some t → HasInts t) → and_then o f ≡ Some t → HasInts t
then_ints None f t h e = cc
then_ints (Some u) f t h e = h u refl e

pub rest_ints : StepsKeepInts → (program : Raw) (workers : ℕ) (ls : List Label) (s t : State) → IsOfInts program
    → AreFew workers → HasInts s → replay_from (rules_of program workers) s ls ≡ Some t → HasInts t
rest_ints steps program workers [] s t ints few h e = let same : s ≡ t = cc in subst HasInts same h
rest_ints steps program workers (l ∷ ls) s t ints few h e =
    then_ints (next_state (rules_of program workers) s l) (λ u. replay_from (rules_of program workers) u ls) t
    (λ u is left. rest_ints steps program workers ls u t ints few
    (steps program workers l s u ints few h is) left) e
