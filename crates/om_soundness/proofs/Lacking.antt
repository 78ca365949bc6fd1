-- A worker that stands ends only where its instruction may lack something.
use Rattle.std.proofs.Common.{◌≡◌, inl, inr, refl, sym, ap, subst, ℕ, ◌+◌, ◌≤◌, arith, Bool, true, false, List, ◌∷◌}
use Rattle.std.proofs.Common.{Option, None, Some, length, option_map}
use Rattle.std.specs.Prelude.{ℤ}
use Rattle.om_foot.specs.declared.object.Obj.TheVariants as obj
use Rattle.om_code.specs.declared.frame.Operand.TheVariants.{Int, NoValue}
use Rattle.om_code.specs.declared.instruction.Instr.{Instr}
use Rattle.om_code.specs.declared.instruction.Instr.TheVariants as i
use Rattle.om_code.specs.declared.instruction.Function.TheVariants as calls
use Rattle.om_code.specs.declared.instruction.Team.TheVariants as teams
use Rattle.om_code.specs.declared.instruction.Sharing.TheVariants as sharings
use Rattle.om_code.specs.declared.instruction.Region.TheVariants as regionals
use Rattle.om_code.specs.declared.instruction.Task.TheVariants as taskings
use Rattle.om_code.specs.declared.raw.Raw.{Raw}
use Rattle.om_code.specs.Frames.{int_at}
use Rattle.om_code.specs.Places.{instruction_at}
use Rattle.om_code.specs.Printing.{ints_on}
use Rattle.om_code.specs.Ways.{pops}
use Rattle.om_state.specs.declared.control.Control as controls
use Rattle.om_state.specs.declared.control.Control.TheVariants.{Running}
use Rattle.om_state.specs.declared.control.Stack.{Stack}
use Rattle.om_state.specs.declared.step.Choice.{Choice}
use Rattle.om_state.specs.declared.step.Choice.TheVariants.{Next, Start}
use Rattle.om_state.specs.declared.step.Label.{Label}
use Rattle.om_state.specs.declared.step.Outcome.TheVariants as outcome
use Rattle.om_state.specs.declared.value.Val.{Val}
use Rattle.om_state.specs.declared.value.Val.TheVariants as value
use Rattle.om_state.specs.Rules.{step_at}
use Rattle.om_state.specs.State.{State, values_read}
use Rattle.om_state.specs.Values.{control_in}
use Rattle.om_team_serial.specs.declared.row.Row.{Row}
use Rattle.om_team_serial.specs.declared.row.Row.TheVariants as row
use Rattle.om_team_serial.specs.Objects.{innermost}
use Rattle.om_team_worksharing.specs.Rows.{share_in}
use Rattle.om_team_serial.specs.Ends.{value_of}
use Rattle.om_task.specs.Tasks.{innermost_group}
use Rattle.om_task.specs.Rules.{rules_of, choice_row, leaving, admits_all, further_in, row_in, outcome_after}
use Rattle.om_team_serial.specs.Sites.{site}
use Rattle.om_team_serial.specs.Sites.{Site, context, operands, next, slots, line, launch, body_of, lock_of, targets_of}
use Rattle.om_task.specs.Table.{row_of}
use Rattle.om_soundness.specs.Reasons.{HasNoValue, MayLack}
use Rattle.om_soundness.proofs.Operands.{no_int, no_ints, no_ints_below}
use Rattle.om_soundness.proofs.Reasons.{Only, serial_only}
use Rattle.om_soundness.proofs.RowReasons.{call_only, return_only, reduce_only, fork_only, arrive_only, depart_only}
use Rattle.om_soundness.proofs.RowReasons.{leave_only, loop_only, sections_only, grab_only, single_only, masked_only}
use Rattle.om_soundness.proofs.RowReasons.{end_masked_only, enter_critical_only, leave_critical_only, spawn_only}
use Rattle.om_soundness.proofs.RowReasons.{task_end_only, wait_end_only, group_begin_only, group_end_only, finish_only}
use Rattle.om_soundness.proofs.RowReasons.{start_only, iterate_only, pick_only, end_worksharing_only}

no_operand : (o : Option ℤ) → option_map Int o ≡ None → o ≡ None
no_operand None e = refl
no_operand (Some v) e = cc

forked : (s : Site) (body count : ℕ) (sized : Bool) (values : List Val)
    → pops (i.Team (teams.Fork body sized count)) ≤ length (operands s)
    → Only (MayLack s.program s.stack (i.Team (teams.Fork body sized count))) ((row_of s (i.Team (teams.Fork body sized count))).row values)
forked s body count true values le =
    fork_only (HasNoValue (count + 1) (operands s)) s.worker s.workers (launch s (count + 1) body)
    (body_of s.program body) (context s) true (int_at count (operands s)) (ints_on count (operands s)) values
    (no_ints_below count (operands s) le) (λ e n. no_int (operands s) count (count + 1) (omega arith) le n)
forked s body count false values le =
    fork_only (HasNoValue count (operands s)) s.worker s.workers (launch s count body) (body_of s.program body)
    (context s) false (int_at count (operands s)) (ints_on count (operands s)) values
    (no_ints count (operands s) le) (λ e n. cc)

finished : (s : Site) (has_value : Bool) (values : List Val) → pops (i.Function (calls.Finish has_value)) ≤ length (operands s)
    → Only (MayLack s.program s.stack (i.Function (calls.Finish has_value))) ((row_of s (i.Function (calls.Finish has_value))).row values)
finished s true values le =
    finish_only (MayLack s.program s.stack (i.Function (calls.Finish true))) s.worker (context s) (context s).kind
    (value_of (context s) true) values inl (λ e. inr (no_int (operands s) 0 1 (omega arith) le e))
finished s false values le =
    finish_only (MayLack s.program s.stack (i.Function (calls.Finish false))) s.worker (context s) (context s).kind
    (value_of (context s) false) values inl (λ e. cc)

instruction_only : (s : Site) (instr : Instr) (values : List Val) → pops instr ≤ length s.stack.top.frame.operands
    → Only (MayLack s.program s.stack instr) ((row_of s instr).row values)
instruction_only s (i.Team teams.ThreadNumber) values h = tt
instruction_only s (i.Team teams.TeamSize) values h = tt
instruction_only s (i.Function (calls.Call body count)) values h =
    call_only (HasNoValue count (operands s)) (launch s count body) (body_of s.program body) (context s)
    (ints_on count (operands s)) values (no_ints count (operands s) h)
instruction_only s (i.Function calls.Return) values h =
    return_only (MayLack s.program s.stack (i.Function calls.Return)) (context s) (slots s) (context s).callers
    (option_map Int (int_at 0 (operands s))) values
    (λ e. inl (no_int (operands s) 0 1 (omega arith) h (no_operand (int_at 0 (operands s)) e))) inr
instruction_only s (i.Function calls.ReturnNothing) values h =
    return_only (MayLack s.program s.stack (i.Function calls.ReturnNothing)) (context s) (slots s) (context s).callers
    (Some NoValue) values (λ e. cc) (λ e. e)
instruction_only s (i.Sharing (sharings.Reduce reduction copy place)) values h =
    reduce_only (MayLack s.program s.stack (i.Sharing (sharings.Reduce reduction copy place))) (context s) reduction copy place values
instruction_only s (i.Team (teams.Fork body sized count)) values h = forked s body count sized values h
instruction_only s (i.Team teams.Begin) values h = tt
instruction_only s (i.Team (teams.Arrive barrier)) values h =
    arrive_only (MayLack s.program s.stack (i.Team (teams.Arrive barrier))) s.worker (next s) barrier (context s) values
instruction_only s (i.Team (teams.Depart barrier)) values h =
    depart_only (MayLack s.program s.stack (i.Team (teams.Depart barrier))) s.worker (next s) barrier (context s) values
instruction_only s (i.Team teams.Leave) values h =
    leave_only (MayLack s.program s.stack (i.Team teams.Leave)) s.worker (context s) s.stack.below (slots s) (context s).kind
    (context s).team.number values inl inr
instruction_only s (i.Sharing (sharings.Loop form)) values h =
    loop_only (MayLack s.program s.stack (i.Sharing (sharings.Loop form))) s.worker (next s) (context s) form (int_at 1 (operands s))
    (int_at 0 (operands s)) values (λ e. inl (no_int (operands s) 1 2 (omega arith) h e))
    (λ e. inl (no_int (operands s) 0 2 (omega arith) h e)) inr
instruction_only s (i.Sharing (sharings.Sections count)) values h =
    sections_only (MayLack s.program s.stack (i.Sharing (sharings.Sections count))) s.worker (next s) (context s) count values
instruction_only s (i.Sharing (sharings.Grab otherwise)) values h =
    grab_only (MayLack s.program s.stack (i.Sharing (sharings.Grab otherwise))) (next s) otherwise (context s)
    (share_in (context s)) values (λ e. e)
instruction_only s (i.Sharing (sharings.Iterate slot otherwise)) values h =
    iterate_only (next s) otherwise (context s) slot (share_in (context s)) values
instruction_only s (i.Sharing (sharings.Pick list)) values h = pick_only (targets_of s.program list) (share_in (context s)) values
instruction_only s (i.Sharing (sharings.Single otherwise)) values h =
    single_only (MayLack s.program s.stack (i.Sharing (sharings.Single otherwise))) s.worker (next s) otherwise (context s) values
instruction_only s (i.Sharing sharings.EndWorksharing) values h =
    end_worksharing_only s.worker (next s) (context s) (innermost (context s).constructs) values
instruction_only s (i.Region (regionals.Masked otherwise)) values h =
    masked_only (MayLack s.program s.stack (i.Region (regionals.Masked otherwise))) s.worker (next s) otherwise (context s)
    (int_at 0 (operands s)) values (no_int (operands s) 0 1 (omega arith) h)
instruction_only s (i.Region regionals.EndMasked) values h =
    end_masked_only (MayLack s.program s.stack (i.Region regionals.EndMasked)) s.worker (next s) (context s)
    (innermost (context s).constructs) values (λ e. e)
instruction_only s (i.Region (regionals.AskCritical lock)) values h = tt
instruction_only s (i.Region (regionals.EnterCritical lock)) values h =
    enter_critical_only (MayLack s.program s.stack (i.Region (regionals.EnterCritical lock))) s.worker (next s) lock
    (lock_of s.program lock) values
instruction_only s (i.Region (regionals.LeaveCritical lock)) values h =
    leave_critical_only (MayLack s.program s.stack (i.Region (regionals.LeaveCritical lock))) s.worker (next s) lock
    (lock_of s.program lock) (innermost (context s).constructs) values (λ e. e)
instruction_only s (i.Task (taskings.Spawn body count)) values h =
    spawn_only (HasNoValue count (operands s))
    (record { worker = s.worker; line = line s; launch = launch s count body }) (body_of s.program body)
    (context s) values (no_ints count (operands s) h)
instruction_only s (i.Task taskings.TaskEnd) values h =
    task_end_only (MayLack s.program s.stack (i.Task taskings.TaskEnd)) s.worker s.stack (slots s) values inl inr
instruction_only s (i.Task taskings.WaitBegin) values h = tt
instruction_only s (i.Task taskings.WaitEnd) values h =
    wait_end_only (MayLack s.program s.stack (i.Task taskings.WaitEnd)) s.worker (next s) (context s) values
instruction_only s (i.Task taskings.Yield) values h = tt
instruction_only s (i.Task taskings.GroupBegin) values h =
    group_begin_only (MayLack s.program s.stack (i.Task taskings.GroupBegin)) s.worker (next s) (context s) values
instruction_only s (i.Task taskings.GroupEnd) values h =
    group_end_only (MayLack s.program s.stack (i.Task taskings.GroupEnd)) s.worker (next s) (context s)
    (innermost_group (innermost (context s).constructs)) values (λ e. e)
instruction_only s (i.Function (calls.Finish has_value)) values h = finished s has_value values h
instruction_only s (i.Serial x) values h = serial_only s.program s.stack x values h

choice_only : (s : Site) (instr : Instr) (choice : Choice) (values : List Val)
    → pops instr ≤ length s.stack.top.frame.operands
    → Only (MayLack s.program s.stack instr) ((choice_row s (Some instr) choice).row values)
choice_only s instr Next values h = instruction_only s instr values h
choice_only s instr (Start name) values h =
    start_only (MayLack s.program s.stack instr)
    (record {
      worker = s.worker;
      status = leaving (Some instr);
      admits = admits_all s.program name
          (s.stack.top ∷ s.stack.below);
    }) name s.stack.top values

row_only : (program : Raw) (workers : ℕ) (l : Label) (stack : Stack) (instr : Instr) (values : List Val)
    → instruction_at program stack.top.frame.body stack.top.frame.next ≡ Some instr
    → pops instr ≤ length stack.top.frame.operands
    → Only (MayLack program stack instr) (row_in program workers l (Running stack) values)
row_only program workers l stack instr values is h =
    let s : Site = site program workers l.worker stack in
    subst (λ (o : Option Instr). Only (MayLack program stack instr) ((choice_row s o l.choice).row values)) (sym is)
    (choice_only s instr l.choice values h)

ended_only : (reason : Type 0) (c : controls.Control) (r : Row) → Only reason r → outcome_after c r ≡ outcome.Ended
    → reason
ended_only reason c row.Lacks h e = h
ended_only reason c (row.Goes edits us) h e = cc
ended_only reason c (row.Faults f) h e = cc
ended_only reason c (row.Blocked b) h e = cc

-- a worker whose instruction has its operands ends only where this may lack something
pub ends_only : (program : Raw) (workers : ℕ) (s : State) (l : Label) (stack : Stack) (instr : Instr)
    → s (obj.Control l.worker) ≡ value.Control (Running stack)
    → instruction_at program stack.top.frame.body stack.top.frame.next ≡ Some instr
    → pops instr ≤ length stack.top.frame.operands
    → (step_at (rules_of program workers) s l).outcome ≡ outcome.Ended
    → MayLack program stack instr
unfolding step_at
ends_only program workers s l stack instr runs is h e =
    let c : controls.Control = control_in (s (obj.Control l.worker)) in
    let values : List Val = values_read (further_in program workers l c) s in
    let same : c ≡ Running stack = ap control_in runs in
    ended_only (MayLack program stack instr) c (row_in program workers l c values)
    (subst (λ (d : controls.Control). Only (MayLack program stack instr) (row_in program workers l d values))
    (sym same) (row_only program workers l stack instr values is h)) e
