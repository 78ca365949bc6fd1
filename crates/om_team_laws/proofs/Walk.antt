-- The row of each choice is among the cases, and so a law holds behind each step that holds in each case.
use Rattle.std.proofs.Common.{◌≡◌, refl, ℕ, Option, None, Some, option_map}
use Rattle.std.proofs.Common.{List, [], ◌∷◌}
use Rattle.om_foot.specs.declared.footprint.Access.{Access}
use Rattle.om_foot.specs.declared.object.Obj.TheVariants as obj
use Rattle.om_code.specs.declared.frame.Operand.TheVariants.{Int, NoValue}
use Rattle.om_code.specs.declared.instruction.Instr.{Instr}
use Rattle.om_code.specs.declared.instruction.Instr.TheVariants as i
use Rattle.om_code.specs.declared.instruction.Function.TheVariants as calls
use Rattle.om_code.specs.declared.instruction.Region.TheVariants as regionals
use Rattle.om_code.specs.declared.instruction.Sharing.TheVariants as sharings
use Rattle.om_code.specs.declared.instruction.Task.TheVariants as taskings
use Rattle.om_code.specs.declared.instruction.Team.TheVariants as teams
use Rattle.om_code.specs.declared.raw.Raw.{Raw}
use Rattle.om_code.specs.Frames.{int_at}
use Rattle.om_code.specs.Places.{instruction_at}
use Rattle.om_code.specs.Printing.{ints_on}
use Rattle.om_state.specs.declared.control.Control as controls
use Rattle.om_state.specs.declared.control.Control.TheVariants.{Idle, Running, Faulted, Ended}
use Rattle.om_state.specs.declared.control.Stack.{Stack}
use Rattle.om_state.specs.declared.step.Choice.{Choice}
use Rattle.om_state.specs.declared.step.Choice.TheVariants.{Next, Start}
use Rattle.om_state.specs.declared.step.Label.{Label}
use Rattle.om_state.specs.Rules.{control_access, next_state, state_after_outcome, step_at}
use Rattle.om_state.specs.State.{State, values_read}
use Rattle.om_state.specs.Values.{control_in}
use Rattle.om_team_serial.specs.declared.row.Row.{Row}
use Rattle.om_team_serial.specs.Objects.{innermost}
use Rattle.om_team_serial.specs.Sites.{Site, body_of, launch, line, lock_of, next, operands, site, slots}
use Rattle.om_team_serial.specs.Sites.{targets_of}
use Rattle.om_team_worksharing.specs.Rows.{share_in}
use Rattle.om_team.specs.Table.{fork_takes}
use Rattle.om_task.specs.Rules.{admits_all, choice_row, further_in, leaving, outcome_after, row_in, rules_of}
use Rattle.om_task.specs.Table.{row_of}
use Rattle.om_team_laws.proofs.Cases.{Covers, Leads}
use Rattle.om_team_laws.proofs.ShareRows.{ask_critical_meets, end_masked_meets, end_worksharing_meets}
use Rattle.om_team_laws.proofs.ShareRows.{enter_critical_meets, grab_meets, iterate_meets, leave_critical_meets, loop_meets}
use Rattle.om_team_laws.proofs.ShareRows.{masked_meets, pick_meets, sections_meets, single_meets}
use Rattle.om_team_laws.proofs.TeamRows.{Meets, arrive_meets, begin_meets, call_meets, depart_meets, finish_meets}
use Rattle.om_team_laws.proofs.TeamRows.{fork_meets, group_begin_meets, group_end_meets, leave_meets, number_meets}
use Rattle.om_team_laws.proofs.TeamRows.{reduce_meets, return_meets, serial_meets, spawn_meets, start_meets}
use Rattle.om_team_laws.proofs.TeamRows.{task_end_meets, wait_begin_meets, wait_end_meets, yield_meets}

module _ (program : Raw) (workers worker : ℕ) (stack : Stack) (s : State) (P : List Access → Row → Type 0)
    (k : Covers worker stack s P) where
  abbrev here : Site
  here = site program workers worker stack

  -- the row of an instruction
  instruction_meets : (instr : Instr) → Meets worker stack s P k (row_of here instr)
  instruction_meets (i.Serial x) = serial_meets worker stack s P k program x
  instruction_meets (i.Function (calls.Call body values)) =
      call_meets worker stack s P k (launch here values body) (body_of program body) (ints_on values (operands here))
  instruction_meets (i.Function calls.Return) =
      return_meets worker stack s P k (slots here) stack.top.callers (option_map Int (int_at 0 (operands here))) refl
  instruction_meets (i.Function calls.ReturnNothing) =
      return_meets worker stack s P k (slots here) stack.top.callers (Some NoValue) refl
  instruction_meets (i.Function (calls.Finish has_value)) = finish_meets worker stack s P k has_value
  instruction_meets (i.Team teams.ThreadNumber) = number_meets worker stack s P k stack.top.team.number
  instruction_meets (i.Team teams.TeamSize) = number_meets worker stack s P k stack.top.team.size
  instruction_meets (i.Team (teams.Fork body sized values)) =
      fork_meets worker stack s P k workers (launch here (fork_takes sized values) body) (body_of program body) sized
      (int_at values (operands here)) (ints_on values (operands here))
  instruction_meets (i.Team teams.Begin) = begin_meets worker stack s P k (next here)
  instruction_meets (i.Team (teams.Arrive barrier)) = arrive_meets worker stack s P k (next here) barrier
  instruction_meets (i.Team (teams.Depart barrier)) = depart_meets worker stack s P k (next here) barrier
  instruction_meets (i.Team teams.Leave) =
      leave_meets worker stack s P k stack.below (slots here) stack.top.kind stack.top.team.number refl
  instruction_meets (i.Sharing (sharings.Loop form)) =
      loop_meets worker stack s P k (next here) form (int_at 1 (operands here)) (int_at 0 (operands here))
  instruction_meets (i.Sharing (sharings.Sections count)) = sections_meets worker stack s P k (next here) count
  instruction_meets (i.Sharing (sharings.Grab otherwise)) =
      grab_meets worker stack s P k (next here) otherwise (share_in stack.top) refl
  instruction_meets (i.Sharing (sharings.Iterate slot otherwise)) =
      iterate_meets worker stack s P k (next here) otherwise slot (share_in stack.top) refl
  instruction_meets (i.Sharing (sharings.Pick list)) =
      pick_meets worker stack s P k (targets_of program list) (share_in stack.top)
  instruction_meets (i.Sharing (sharings.Single otherwise)) = single_meets worker stack s P k (next here) otherwise
  instruction_meets (i.Sharing sharings.EndWorksharing) =
      end_worksharing_meets worker stack s P k (next here) (innermost stack.top.constructs) refl
  instruction_meets (i.Sharing (sharings.Reduce reduction copy place)) =
      reduce_meets worker stack s P k reduction copy place
  instruction_meets (i.Region (regionals.Masked otherwise)) =
      masked_meets worker stack s P k (next here) otherwise (int_at 0 (operands here))
  instruction_meets (i.Region regionals.EndMasked) =
      end_masked_meets worker stack s P k (next here) (innermost stack.top.constructs) refl
  instruction_meets (i.Region (regionals.AskCritical lock)) =
      ask_critical_meets worker stack s P k (next here) (lock_of program lock)
  instruction_meets (i.Region (regionals.EnterCritical lock)) =
      enter_critical_meets worker stack s P k (next here) lock (lock_of program lock)
  instruction_meets (i.Region (regionals.LeaveCritical lock)) =
      leave_critical_meets worker stack s P k (next here) lock (lock_of program lock)
  instruction_meets (i.Task (taskings.Spawn body values)) =
      spawn_meets worker stack s P k (record {
        worker = worker;
        line = line here;
        launch = launch here values body;
      }) (body_of program body)
  instruction_meets (i.Task taskings.TaskEnd) = task_end_meets worker stack s P k (slots here)
  instruction_meets (i.Task taskings.WaitBegin) = wait_begin_meets worker stack s P k (next here)
  instruction_meets (i.Task taskings.WaitEnd) = wait_end_meets worker stack s P k (next here)
  instruction_meets (i.Task taskings.Yield) = yield_meets worker stack s P k (next here)
  instruction_meets (i.Task taskings.GroupBegin) = group_begin_meets worker stack s P k (next here)
  instruction_meets (i.Task taskings.GroupEnd) = group_end_meets worker stack s P k (next here)

  -- the row of a choice
  choice_meets : (o : Option Instr) (choice : Choice) → Meets worker stack s P k (choice_row here o choice)
  choice_meets None Next = k.lacks []
  choice_meets (Some instr) Next = instruction_meets instr
  choice_meets o (Start name) =
      start_meets worker stack s P k (leaving o) (admits_all program name (stack.top ∷ stack.below)) name

-- ---- a step

-- what holds in each case of a worker that runs holds behind each step
module _ (program : Raw) (workers : ℕ) (l : Label) (s : State) (Q : State → Type 0)
    (covers : (stack : Stack) → control_in (s (obj.Control l.worker)) ≡ Running stack
    → Covers l.worker stack s (Leads l stack s Q)) where
  by_control : (c : controls.Control) → control_in (s (obj.Control l.worker)) ≡ c → (t : State)
      → state_after_outcome (control_access l ∷ further_in program workers l c)
      (outcome_after c (row_in program workers l c (values_read (further_in program workers l c) s))) s ≡ Some t → Q t
  by_control (Running stack) e t is =
      choice_meets program workers l.worker stack s (Leads l stack s Q) (covers stack e)
      (instruction_at program stack.top.frame.body stack.top.frame.next) l.choice t is
  by_control Idle e t is = cc
  by_control (Faulted fault stack) e t is = cc
  by_control (Ended result) e t is = cc

  pub step_leads : (t : State) → next_state (rules_of program workers) s l ≡ Some t → Q t
  unfolding step_at
  step_leads t is = by_control (control_in (s (obj.Control l.worker))) refl t is
