-- The row of each choice keeps to its bounds.
use Rattle.std.proofs.Common.{ℕ, List, ◌∷◌, Option, None, Some, option_map}
use Rattle.om_code.specs.declared.frame.Operand.TheVariants.{Int, NoValue}
use Rattle.om_code.specs.declared.instruction.Instr.{Instr}
use Rattle.om_code.specs.declared.instruction.Instr.TheVariants as i
use Rattle.om_code.specs.declared.instruction.Function.TheVariants as calls
use Rattle.om_code.specs.declared.instruction.Team.TheVariants as teams
use Rattle.om_code.specs.declared.instruction.Sharing.TheVariants as sharings
use Rattle.om_code.specs.declared.instruction.Region.TheVariants as regionals
use Rattle.om_code.specs.declared.instruction.Task.TheVariants as taskings
use Rattle.om_code.specs.declared.raw.Raw.{Raw}
use Rattle.om_code.specs.Frames.{int_at}
use Rattle.om_code.specs.Places.{instruction_at}
use Rattle.om_code.specs.Printing.{ints_on}
use Rattle.om_state.specs.declared.control.Control as controls
use Rattle.om_state.specs.declared.control.Control.TheVariants.{Idle, Running, Faulted, Ended}
use Rattle.om_state.specs.declared.step.Choice.{Choice}
use Rattle.om_state.specs.declared.step.Choice.TheVariants.{Next, Start}
use Rattle.om_state.specs.declared.step.Label.{Label}
use Rattle.om_state.specs.declared.value.Val.{Val}
use Rattle.om_team_serial.specs.Objects.{innermost}
use Rattle.om_team_worksharing.specs.Rows.{share_in}
use Rattle.om_team.specs.Counters.{IsWithin, ControlWithin}
use Rattle.om_team_serial.specs.Sites.{site}
use Rattle.om_task.specs.Rules.{choice_row, next_row, leaving, admits_all, row_in}
use Rattle.om_team_serial.specs.Sites.{Site, context, operands, next, slots, line, launch, body_of, lock_of, targets_of}
use Rattle.om_task.proofs.Bounds.{RowWithin, AskedWithin, ValuesWithin}
use Rattle.om_task.specs.Table.{row_of}
use Rattle.om_team.specs.Table.{fork_takes}
use Rattle.om_task.proofs.Gentle.{lacks}
use Rattle.om_task.proofs.ShareRows.{loop_within, sections_within, grab_within, iterate_within, pick_within}
use Rattle.om_task.proofs.ShareRows.{single_within, end_worksharing_within, masked_within, end_masked_within}
use Rattle.om_task.proofs.ShareRows.{ask_critical_within, enter_critical_within, leave_critical_within}
use Rattle.om_task.proofs.TaskRows.{serial_within, number_within, call_within, return_within, reduce_within}
use Rattle.om_task.proofs.TaskRows.{fork_within, begin_within, arrive_within, depart_within, leave_within, spawn_within}
use Rattle.om_task.proofs.TaskRows.{task_end_within, wait_begin_within, wait_end_within, yield_within}
use Rattle.om_task.proofs.TaskRows.{group_begin_within, group_end_within, finish_within, start_within}

instruction_within : (n : ℕ) (s : Site) (instr : Instr) (values : List Val) → IsWithin n s.stack.top
    → AskedWithin n (row_of s instr) values
instruction_within n s (i.Team teams.ThreadNumber) values w = number_within n (context s) (context s).team.number values
instruction_within n s (i.Team teams.TeamSize) values w = number_within n (context s) (context s).team.size values
instruction_within n s (i.Function (calls.Call body count)) values w = call_within n (launch s count body) (body_of s.program body)
    (context s) (ints_on count (operands s)) values
instruction_within n s (i.Function calls.Return) values w = return_within n (context s) (slots s) (context s).callers
    (option_map Int (int_at 0 (operands s))) values
instruction_within n s (i.Function calls.ReturnNothing) values w = return_within n (context s) (slots s) (context s).callers
    (Some NoValue) values
instruction_within n s (i.Sharing (sharings.Reduce reduction copy place)) values w = reduce_within n (context s) reduction copy place
    values
instruction_within n s (i.Team (teams.Fork body sized count)) values w = fork_within n s.worker s.workers
    (launch s (fork_takes sized count) body) (body_of s.program body) (context s) sized (int_at count (operands s))
    (ints_on count (operands s)) values
instruction_within n s (i.Team teams.Begin) values w = begin_within n s.worker (next s) (context s) values
instruction_within n s (i.Team (teams.Arrive barrier)) values w = arrive_within n s.worker (next s) barrier (context s) values
instruction_within n s (i.Team (teams.Depart barrier)) values w = depart_within n s.worker (next s) barrier (context s) values
instruction_within n s (i.Team teams.Leave) values w = leave_within n s.worker (context s) s.stack.below (slots s)
    (context s).kind (context s).team.number values
instruction_within n s (i.Sharing (sharings.Loop form)) values w = loop_within n s.worker (next s) (context s) form
    (int_at 1 (operands s)) (int_at 0 (operands s)) values
instruction_within n s (i.Sharing (sharings.Sections count)) values w = sections_within n s.worker (next s) (context s) count values
instruction_within n s (i.Sharing (sharings.Grab otherwise)) values w = grab_within n (next s) otherwise (context s)
    (share_in (context s)) values
instruction_within n s (i.Sharing (sharings.Iterate slot otherwise)) values w = iterate_within n (next s) otherwise (context s) slot
    (share_in (context s)) values
instruction_within n s (i.Sharing (sharings.Pick number)) values w = pick_within n (targets_of s.program number) (share_in (context s))
    values
instruction_within n s (i.Sharing (sharings.Single otherwise)) values w = single_within n s.worker (next s) otherwise (context s) values
instruction_within n s (i.Sharing sharings.EndWorksharing) values w = end_worksharing_within n s.worker (next s) (context s)
    (innermost (context s).constructs) values
instruction_within n s (i.Region (regionals.Masked otherwise)) values w = masked_within n s.worker (next s) otherwise (context s)
    (int_at 0 (operands s)) values
instruction_within n s (i.Region regionals.EndMasked) values w = end_masked_within n s.worker (next s) (context s)
    (innermost (context s).constructs) values
instruction_within n s (i.Region (regionals.AskCritical lock)) values w = ask_critical_within n s.worker (next s)
    (lock_of s.program lock) values
instruction_within n s (i.Region (regionals.EnterCritical lock)) values w = enter_critical_within n s.worker (next s) lock
    (lock_of s.program lock) values
instruction_within n s (i.Region (regionals.LeaveCritical lock)) values w = leave_critical_within n s.worker (next s) lock
    (lock_of s.program lock) (innermost (context s).constructs) values
instruction_within n s (i.Task (taskings.Spawn body count)) values w = spawn_within n
    (record { worker = s.worker; line = line s; launch = launch s count body }) (body_of s.program body) (context s)
    values w
instruction_within n s (i.Task taskings.TaskEnd) values w = task_end_within n s.worker s.stack (slots s) values
instruction_within n s (i.Task taskings.WaitBegin) values w = wait_begin_within n s.worker (next s) (context s) values
instruction_within n s (i.Task taskings.WaitEnd) values w = wait_end_within n s.worker (next s) (context s) values
instruction_within n s (i.Task taskings.Yield) values w = yield_within n (next s) values
instruction_within n s (i.Task taskings.GroupBegin) values w = group_begin_within n s.worker (next s) (context s) values
instruction_within n s (i.Task taskings.GroupEnd) values w = group_end_within n s.worker (next s) (context s) values
instruction_within n s (i.Function (calls.Finish has_value)) values w = finish_within n s.worker (context s) has_value values
instruction_within n s (i.Serial x) values w = serial_within n s.program (context s) x values

next_within : (n : ℕ) (s : Site) (instr : Option Instr) (values : List Val) → IsWithin n s.stack.top
    → AskedWithin n (next_row s instr) values
next_within n s None values w = lacks n values
next_within n s (Some instr) values w = instruction_within n s instr values w

pub choice_within : (n : ℕ) (s : Site) (instr : Option Instr) (choice : Choice) (values : List Val)
    → IsWithin n s.stack.top → ValuesWithin n values → AskedWithin n (choice_row s instr choice) values
choice_within n s instr Next values w h = next_within n s instr values w
choice_within n s instr (Start name) values w h = start_within n
    (record {
      worker = s.worker;
      status = leaving instr;
      admits = admits_all s.program name
          (s.stack.top ∷ s.stack.below);
    }) name s.stack.top values h

-- the row of a control keeps to its bounds
pub row_within : (n : ℕ) (program : Raw) (workers : ℕ) (l : Label) (c : controls.Control) (values : List Val)
    → ControlWithin n c → ValuesWithin n values → RowWithin n (row_in program workers l c values)
row_within n program workers l (Running stack) values w h = (choice_within n (site program workers l.worker stack)
    (instruction_at program stack.top.frame.body stack.top.frame.next) l.choice values w.0 h).row
row_within n program workers l Idle values w h = tt
row_within n program workers l (Faulted fault stack) values w h = tt
row_within n program workers l (Ended result) values w h = tt
