-- The row of each choice is shaped.
use Rattle.std.proofs.Common.{ℕ, List, ◌∷◌, Option, None, Some, option_map}
use Rattle.om_code.specs.declared.frame.Operand.TheVariants.{Int, NoValue}
use Rattle.om_code.specs.declared.instruction.Instr.{Instr}
use Rattle.om_code.specs.declared.instruction.Instr.TheVariants as i
use Rattle.om_code.specs.declared.instruction.Function.TheVariants as calls
use Rattle.om_code.specs.declared.instruction.Team.TheVariants as teams
use Rattle.om_code.specs.declared.instruction.Sharing.TheVariants as sharings
use Rattle.om_code.specs.declared.instruction.Region.TheVariants as regionals
use Rattle.om_code.specs.declared.instruction.Task.TheVariants as taskings
use Rattle.om_code.specs.declared.raw.Raw.{Raw}
use Rattle.om_code.specs.Frames.{int_at}
use Rattle.om_code.specs.Places.{instruction_at}
use Rattle.om_code.specs.Printing.{ints_on}
use Rattle.om_state.specs.declared.control.Control as controls
use Rattle.om_state.specs.declared.control.Control.TheVariants.{Idle, Running, Faulted, Ended}
use Rattle.om_state.specs.declared.step.Choice.{Choice}
use Rattle.om_state.specs.declared.step.Choice.TheVariants.{Next, Start}
use Rattle.om_state.specs.declared.step.Label.{Label}
use Rattle.om_state.specs.declared.value.Val.{Val}
use Rattle.om_team_serial.specs.declared.row.Row.TheVariants.{Lacks}
use Rattle.om_team_serial.specs.Objects.{innermost}
use Rattle.om_team_worksharing.specs.Rows.{share_in}
use Rattle.om_team_serial.specs.Sites.{Site, site, context, operands, next, slots, line, launch, body_of, lock_of, targets_of}
use Rattle.om_team.specs.Table.{fork_takes}
use Rattle.om_task.specs.Rules.{choice_row, next_row, leaving, admits_all, further_in, row_in}
use Rattle.om_task.specs.Table.{row_of}
use Rattle.om_task.proofs.CellPuts.{RowPutsCells}
use Rattle.om_task.proofs.NoControls.{RowShaped, AskedShaped, by_control}
use Rattle.om_task.proofs.ShapedForks.{fork_shaped}
use Rattle.om_task.proofs.ShapedShares.{loop_shaped, sections_shaped, grab_shaped, iterate_shaped, pick_shaped}
use Rattle.om_task.proofs.ShapedShares.{single_shaped, end_worksharing_shaped, masked_shaped, end_masked_shaped}
use Rattle.om_task.proofs.ShapedShares.{ask_critical_shaped, enter_critical_shaped, leave_critical_shaped}
use Rattle.om_task.proofs.ShapedTasks.{serial_shaped, number_shaped, call_shaped, return_shaped, reduce_shaped}
use Rattle.om_task.proofs.ShapedTasks.{begin_shaped, arrive_shaped, depart_shaped, leave_shaped, finish_shaped}
use Rattle.om_task.proofs.ShapedTasks.{spawn_shaped, task_end_shaped, wait_begin_shaped, wait_end_shaped, yield_shaped}
use Rattle.om_task.proofs.ShapedTasks.{group_begin_shaped, group_end_shaped, start_shaped}

instruction_shaped : (s : Site) (instr : Instr) → AskedShaped (row_of s instr)
instruction_shaped s (i.Team teams.ThreadNumber) = number_shaped (context s) (context s).team.number
instruction_shaped s (i.Team teams.TeamSize) = number_shaped (context s) (context s).team.size
instruction_shaped s (i.Function (calls.Call body count)) = call_shaped (launch s count body) (body_of s.program body) (context s)
    (ints_on count (operands s))
instruction_shaped s (i.Function calls.Return) = return_shaped (context s) (slots s) (context s).callers
    (option_map Int (int_at 0 (operands s)))
instruction_shaped s (i.Function calls.ReturnNothing) = return_shaped (context s) (slots s) (context s).callers (Some NoValue)
instruction_shaped s (i.Sharing (sharings.Reduce reduction copy place)) = reduce_shaped (context s) reduction copy place
instruction_shaped s (i.Team (teams.Fork body sized count)) = fork_shaped s.worker s.workers
    (launch s (fork_takes sized count) body) (body_of s.program body) (context s) sized (int_at count (operands s))
    (ints_on count (operands s))
instruction_shaped s (i.Team teams.Begin) = begin_shaped s.worker (next s) (context s)
instruction_shaped s (i.Team (teams.Arrive barrier)) = arrive_shaped s.worker (next s) barrier (context s)
instruction_shaped s (i.Team (teams.Depart barrier)) = depart_shaped s.worker (next s) barrier (context s)
instruction_shaped s (i.Team teams.Leave) = leave_shaped s.worker (context s) s.stack.below (slots s) (context s).kind
    (context s).team.number
instruction_shaped s (i.Function (calls.Finish has_value)) = finish_shaped s.worker (context s) has_value
instruction_shaped s (i.Sharing (sharings.Loop form)) = loop_shaped s.worker (next s) (context s) form (int_at 1 (operands s))
    (int_at 0 (operands s))
instruction_shaped s (i.Sharing (sharings.Sections count)) = sections_shaped s.worker (next s) (context s) count
instruction_shaped s (i.Sharing (sharings.Grab otherwise)) = grab_shaped (next s) otherwise (context s) (share_in (context s))
instruction_shaped s (i.Sharing (sharings.Iterate slot otherwise)) = iterate_shaped (next s) otherwise (context s) slot
    (share_in (context s))
instruction_shaped s (i.Sharing (sharings.Pick number)) = pick_shaped (targets_of s.program number) (share_in (context s))
instruction_shaped s (i.Sharing (sharings.Single otherwise)) = single_shaped s.worker (next s) otherwise (context s)
instruction_shaped s (i.Sharing sharings.EndWorksharing) = end_worksharing_shaped s.worker (next s) (context s)
    (innermost (context s).constructs)
instruction_shaped s (i.Region (regionals.Masked otherwise)) = masked_shaped s.worker (next s) otherwise (context s)
    (int_at 0 (operands s))
instruction_shaped s (i.Region regionals.EndMasked) = end_masked_shaped s.worker (next s) (context s) (innermost (context s).constructs)
instruction_shaped s (i.Region (regionals.AskCritical lock)) = ask_critical_shaped s.worker (next s) (lock_of s.program lock)
instruction_shaped s (i.Region (regionals.EnterCritical lock)) = enter_critical_shaped s.worker (next s) lock (lock_of s.program lock)
instruction_shaped s (i.Region (regionals.LeaveCritical lock)) = leave_critical_shaped s.worker (next s) lock (lock_of s.program lock)
    (innermost (context s).constructs)
instruction_shaped s (i.Task (taskings.Spawn body count)) = spawn_shaped
    (record { worker = s.worker; line = line s; launch = launch s count body }) (body_of s.program body) (context s)
instruction_shaped s (i.Task taskings.TaskEnd) = task_end_shaped s.worker s.stack (slots s)
instruction_shaped s (i.Task taskings.WaitBegin) = wait_begin_shaped s.worker (next s) (context s)
instruction_shaped s (i.Task taskings.WaitEnd) = wait_end_shaped s.worker (next s) (context s)
instruction_shaped s (i.Task taskings.Yield) = yield_shaped (next s)
instruction_shaped s (i.Task taskings.GroupBegin) = group_begin_shaped s.worker (next s) (context s)
instruction_shaped s (i.Task taskings.GroupEnd) = group_end_shaped s.worker (next s) (context s)
instruction_shaped s (i.Serial x) = serial_shaped s.program (context s) x

next_shaped : (s : Site) (instr : Option Instr) → AskedShaped (next_row s instr)
next_shaped s None = by_control Lacks
next_shaped s (Some instr) = instruction_shaped s instr

choice_shaped : (s : Site) (instr : Option Instr) (choice : Choice) → AskedShaped (choice_row s instr choice)
choice_shaped s instr Next = next_shaped s instr
choice_shaped s instr (Start name) = start_shaped
    (record {
      worker = s.worker;
      status = leaving instr;
      admits = admits_all
          s.program name (s.stack.top ∷ s.stack.below);
    }) name s.stack.top

-- the row of a control is shaped along what that control names
pub row_shaped : (program : Raw) (workers : ℕ) (l : Label) (c : controls.Control) (values : List Val)
    → RowShaped (further_in program workers l c) (row_in program workers l c values)
row_shaped program workers l (Running stack) values = (choice_shaped (site program workers l.worker stack)
    (instruction_at program stack.top.frame.body stack.top.frame.next) l.choice).row values
row_shaped program workers l Idle values = tt
row_shaped program workers l (Faulted fault stack) values = tt
row_shaped program workers l (Ended result) values = tt

pub row_puts_cells : (program : Raw) (workers : ℕ) (l : Label) (c : controls.Control) (values : List Val)
    → RowPutsCells (further_in program workers l c) (row_in program workers l c values)
row_puts_cells program workers l (Running stack) values = (choice_shaped (site program workers l.worker stack)
    (instruction_at program stack.top.frame.body stack.top.frame.next) l.choice).cells values
row_puts_cells program workers l Idle values = tt
row_puts_cells program workers l (Faulted fault stack) values = tt
row_puts_cells program workers l (Ended result) values = tt
