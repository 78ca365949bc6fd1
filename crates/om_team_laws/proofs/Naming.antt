-- The row of each instruction but SPAWN and TEND names no task, and no count of children that it may change.
use Rattle.om_code.specs.Frames.{Touch, act, int_at}
use Rattle.om_code.specs.Printing.{ints_on}
use Rattle.om_code.specs.declared.act.Turn.{Turn}
use Rattle.om_code.specs.declared.frame.Operand.{Operand}
use Rattle.om_code.specs.declared.frame.Operand.TheVariants.{Int, NoValue}
use Rattle.om_code.specs.declared.instruction.Instr.{Instr}
use Rattle.om_code.specs.declared.instruction.LoopForm.{LoopForm}
use Rattle.om_code.specs.declared.instruction.Schedule.{Schedule}
use Rattle.om_code.specs.declared.raw.Body.{Body}
use Rattle.om_code.specs.declared.raw.Raw.{Raw}
use Rattle.om_code.specs.declared.raw.Slot.{Slot}
use Rattle.om_state.specs.OpenShares.{is_loop}
use Rattle.om_state.specs.declared.control.Construct.{Construct}
use Rattle.om_state.specs.declared.control.Context.{Context}
use Rattle.om_state.specs.declared.control.Frame.{Frame}
use Rattle.om_state.specs.declared.control.Kind.{Kind}
use Rattle.om_state.specs.declared.control.Share.{Share}
use Rattle.om_state.specs.declared.control.Stack.{Stack}
use Rattle.om_task.specs.Rows.{closed_row}
use Rattle.om_task.specs.Rows.{opened_row}
use Rattle.om_task.specs.Table.{row_of}
use Rattle.om_task.specs.Tasks.{born, innermost_group}
use Rattle.om_team.specs.Rows.{fork_row, named_row, sized_row, team_of}
use Rattle.om_team.specs.Table.{fork_takes}
use Rattle.om_team_serial.specs.Ends.{finished_row, value_of}
use Rattle.om_team_serial.specs.Objects.{innermost, own_cells}
use Rattle.om_team_serial.specs.Objects.{is_misplaced}
use Rattle.om_team_serial.specs.Rows.{Asked}
use Rattle.om_team_serial.specs.SerialRows.{call_row}
use Rattle.om_team_serial.specs.SerialRows.{return_row, slots_in, touch_row}
use Rattle.om_team_serial.specs.Sites.{Site, body_of, launch, next, operands, site, slots, targets_of}
use Rattle.om_team_serial.specs.declared.row.Launch.{Launch}
use Rattle.om_team_worksharing.specs.Rows.{is_misplaced_barrier, leave_row}
use Rattle.om_team_worksharing.specs.Rows.{left_row, chunk_row}
use Rattle.om_team_worksharing.specs.Rows.{end_masked_row, end_worksharing_row, filtered_row}
use Rattle.om_team_worksharing.specs.Rows.{grab_row, is_critical, is_right_form, iterate_row}
use Rattle.om_team_worksharing.specs.Rows.{loop_of, loop_row, masked_row}
use Rattle.om_team_worksharing.specs.Rows.{open_row, opened, pick_row, share_in}
use Rattle.std.proofs.Common.{refl, ℕ, zero, suc, ◌-◌, ℤ, pos, negsuc, Bool, true, false}
use Rattle.std.proofs.Common.{if◌then◌else◌, Option, None, Some, List, [], ◌∷◌, length, option_map}
use Rattle.std.specs.Ordering.{int_eq}
use Rattle.std.specs.Prelude.{nat_le, nat_lt}
use Rattle.om_code.specs.Frames as touch
use Rattle.om_code.specs.declared.frame.Cell as cells
use Rattle.om_code.specs.declared.instruction.Function.TheVariants as calls
use Rattle.om_code.specs.declared.instruction.Instr.TheVariants as i
use Rattle.om_code.specs.declared.instruction.Place.TheVariants as place
use Rattle.om_code.specs.declared.instruction.Region.TheVariants as regionals
use Rattle.om_code.specs.declared.instruction.Schedule.TheVariants as schedule
use Rattle.om_code.specs.declared.instruction.Sharing.TheVariants as sharings
use Rattle.om_code.specs.declared.instruction.Task.TheVariants as taskings
use Rattle.om_code.specs.declared.instruction.Team.TheVariants as teams
use Rattle.om_state.specs.declared.control.Construct.TheVariants as construct
use Rattle.om_state.specs.declared.control.Kind.TheVariants as kind
use Rattle.om_state.specs.declared.control.Sharing.TheVariants as sharing
use Rattle.om_foot.specs.declared.footprint.Mode.TheVariants as mode
use Rattle.om_team_laws.proofs.Counted.{AreUncounted, barrier_uncounted, given_uncounted, members_uncounted}
use Rattle.om_team_laws.proofs.Counted.{object_uncounted, own_uncounted, slot_uncounted, uncounted_append, workers_uncounted}

module _ (worker : ℕ) (stack : Stack) where
  abbrev Un : Asked → Type 0
  Un a = AreUncounted a.names

  if_un : (b : Bool) (x y : Asked) → Un x → Un y → Un (if b then x else y)
  if_un true x y h k = h
  if_un false x y h k = k

  touched : (raw : Raw) (t : cells.Cell → Turn) (x : Touch) → Un (touch_row raw stack.top t x)
  touched raw t touch.Nothing = tt
  touched raw t (touch.Reads p index) = (object_uncounted stack.top p index mode.Read, tt)
  touched raw t (touch.Writes p index) = (object_uncounted stack.top p index mode.Write, tt)
  touched raw t (touch.Clears slot) = slot_uncounted _ _ slot _ 0 _
  touched raw t (touch.Prints text count) = (refl, tt)

  called : (launch : Launch) (body : Body) (ints : Option (List ℤ)) → Un (call_row launch body stack.top ints)
  called launch body None = tt
  called launch body (Some ns) =
      if_un (nat_le 999 (length stack.top.callers)) _ _ tt (given_uncounted stack.top.task stack.top.frames body.given)

  returned : (slots : List Slot) (callers : List Frame) (v : Option Operand) → Un (return_row stack.top slots callers v)
  returned slots callers None = tt
  returned slots [] (Some v) = tt
  returned slots (f ∷ callers) (Some v) = own_uncounted stack.top slots

  finishes : (which : Kind) (v : Option ℤ) → Un (finished_row worker stack.top which v)
  finishes kind.Implicit v = tt
  finishes kind.Explicit v = tt
  finishes kind.Initial None = tt
  finishes kind.Initial (Some n) = (refl, (refl, tt))

  named : (workers : ℕ) (launch : Launch) (body : Body) (asked : Option ℕ) (ns : List ℤ)
      → Un (named_row worker workers launch body stack.top asked ns)
  named workers launch body asked ns =
      let team = team_of workers stack.top asked in
      if_un (nat_lt 62 (length stack.top.task)) _ _ tt
      (uncounted_append _ _ (workers_uncounted 1 (team.size - 1))
      (uncounted_append _ _ (members_uncounted team.name body.given 0 team.size) (refl, tt)))

  sized : (workers : ℕ) (launch : Launch) (body : Body) (size : Option ℤ) (ns : List ℤ)
      → Un (sized_row worker workers launch body stack.top size ns)
  sized workers launch body None ns = tt
  sized workers launch body (Some (pos zero)) ns = tt
  sized workers launch body (Some (pos (suc n))) ns = named workers launch body (Some (suc n)) ns
  sized workers launch body (Some (negsuc n)) ns = tt

  forks : (workers : ℕ) (launch : Launch) (body : Body) (with_size : Bool) (size : Option ℤ) (ints : Option (List ℤ))
      → Un (fork_row worker workers launch body stack.top with_size size ints)
  forks workers launch body with_size size None = tt
  forks workers launch body false size (Some ns) = named workers launch body None ns
  forks workers launch body true size (Some ns) = sized workers launch body size ns

  leaves : (below : List Context) (slots : List Slot) → Un (left_row worker stack.top below (own_cells stack.top slots))
  leaves below slots = uncounted_append _ _ (barrier_uncounted stack.top.team stack.top.phase)
      (uncounted_append _ _ (own_uncounted stack.top slots) (refl, tt))

  left_un : (below : List Context) (slots : List Slot) (which : Kind) (number : ℕ)
      → Un (leave_row worker stack.top below slots which number)
  left_un below slots kind.Initial number = tt
  left_un below slots kind.Explicit number = tt
  left_un [] slots kind.Implicit zero = tt
  left_un [] slots kind.Implicit (suc n) = leaves [] slots
  left_un (c ∷ below) slots kind.Implicit zero = leaves (c ∷ below) slots
  left_un (c ∷ below) slots kind.Implicit (suc n) = leaves (c ∷ below) slots

  opens : (to takes : ℕ) (share : Share) → Un (open_row worker to takes stack.top share)
  opens to takes share = if_un (is_misplaced stack.top) _ _ tt (refl, tt)

  loops : (to : ℕ) (form : LoopForm) (lower upper : Option ℤ) → Un (loop_row worker to stack.top form lower upper)
  loops to form (Some lower) (Some upper) =
      if_un (is_right_form form) _ _ (opens to 2 (loop_of stack.top.regions form lower upper)) tt
  loops to form (Some lower) None = tt
  loops to form None upper = tt

  chunks : (to otherwise : ℕ) (share : Share) (sched : Schedule) → Un (chunk_row to otherwise stack.top share sched)
  chunks to otherwise share schedule.Static = tt
  chunks to otherwise share (schedule.StaticChunk size) = tt
  chunks to otherwise share (schedule.Dynamic size) = (refl, tt)

  grabs : (to otherwise : ℕ) (share : Option Share) → Un (grab_row to otherwise stack.top share)
  grabs to otherwise (Some share) = chunks to otherwise share share.schedule
  grabs to otherwise None = tt

  iterates : (to otherwise slot : ℕ) (share : Option Share) → Un (iterate_row to otherwise stack.top slot share)
  iterates to otherwise slot (Some share) =
      if_un (is_loop share.sharing) _ _
      (if_un (nat_lt share.next share.end) _ _ (object_uncounted stack.top (place.Slot slot) 0 mode.Write, tt) tt) tt
  iterates to otherwise slot None = tt

  picks : (targets : List ℕ) (share : Option Share) → Un (pick_row targets share)
  picks targets (Some share) = tt
  picks targets None = tt

  worksharing_ends : (to : ℕ) (region : Option Construct) → Un (end_worksharing_row worker to stack.top region)
  worksharing_ends to (Some (construct.Share share)) = (refl, tt)
  worksharing_ends to (Some (construct.Single runs)) = (refl, tt)
  worksharing_ends to (Some construct.Masked) = tt
  worksharing_ends to (Some (construct.Critical lock)) = tt
  worksharing_ends to (Some (construct.Group name)) = tt
  worksharing_ends to None = tt

  filters : (to otherwise : ℕ) (runs : Bool) → Un (filtered_row worker to otherwise stack.top runs)
  filters to otherwise true = (refl, tt)
  filters to otherwise false = (refl, tt)

  masks : (to otherwise : ℕ) (number : Option ℤ) → Un (masked_row worker to otherwise stack.top number)
  masks to otherwise (Some n) = filters to otherwise (int_eq n (pos stack.top.team.number))
  masks to otherwise None = tt

  masked_ends : (to : ℕ) (region : Option Construct) → Un (end_masked_row worker to stack.top region)
  masked_ends to (Some construct.Masked) = (refl, tt)
  masked_ends to (Some (construct.Share share)) = tt
  masked_ends to (Some (construct.Single runs)) = tt
  masked_ends to (Some (construct.Critical lock)) = tt
  masked_ends to (Some (construct.Group name)) = tt
  masked_ends to None = tt

  groups_begin : (to : ℕ) (group : Option (List ℕ)) → Un (opened_row worker to stack.top group)
  groups_begin to None = tt
  groups_begin to (Some group) = (refl, tt)

  groups_end : (to : ℕ) (group : Option (List ℕ)) → Un (closed_row worker to stack.top group)
  groups_end to None = tt
  groups_end to (Some group) = (refl, (refl, tt))

-- no SPAWN and no TEND
abbrev pub IsPlain : Instr → Type 0
IsPlain (i.Task (taskings.Spawn body values)) = ⊥
IsPlain (i.Task taskings.TaskEnd) = ⊥
IsPlain _ = Unit {0}

module _ (program : Raw) (workers worker : ℕ) (stack : Stack) where
  abbrev here : Site
  here = site program workers worker stack

  pub plain_names : (instr : Instr) → IsPlain instr → AreUncounted (row_of here instr).names
  plain_names (i.Serial x) h = touched worker stack program
      (act program (slots_in program stack.top) x stack.top.frame.operands).turn
      (act program (slots_in program stack.top) x stack.top.frame.operands).touch
  plain_names (i.Function (calls.Call body values)) h =
      called worker stack (launch here values body) (body_of program body) (ints_on values (operands here))
  plain_names (i.Function calls.Return) h =
      returned worker stack (slots here) stack.top.callers (option_map Int (int_at 0 (operands here)))
  plain_names (i.Function calls.ReturnNothing) h = returned worker stack (slots here) stack.top.callers (Some NoValue)
  plain_names (i.Function (calls.Finish has_value)) h =
      finishes worker stack stack.top.kind (value_of stack.top has_value)
  plain_names (i.Team teams.ThreadNumber) h = tt
  plain_names (i.Team teams.TeamSize) h = tt
  plain_names (i.Team (teams.Fork body with_size values)) h =
      forks worker stack workers (launch here (fork_takes with_size values) body) (body_of program body) with_size
      (int_at values (operands here)) (ints_on values (operands here))
  plain_names (i.Team teams.Begin) h = (refl, tt)
  plain_names (i.Team (teams.Arrive barrier)) h =
      if_un worker stack (is_misplaced_barrier barrier stack.top) _ _ tt (refl, (refl, tt))
  plain_names (i.Team (teams.Depart barrier)) h =
      uncounted_append _ _ (barrier_uncounted stack.top.team stack.top.phase) (refl, tt)
  plain_names (i.Team teams.Leave) h =
      left_un worker stack stack.below (slots here) stack.top.kind stack.top.team.number
  plain_names (i.Sharing (sharings.Loop form)) h =
      loops worker stack (next here) form (int_at 1 (operands here)) (int_at 0 (operands here))
  plain_names (i.Sharing (sharings.Sections count)) h =
      opens worker stack (next here) 0 (opened sharing.Sections stack.top.regions count (pos 0) (pos 1) (schedule.Dynamic 1))
  plain_names (i.Sharing (sharings.Grab otherwise)) h = grabs worker stack (next here) otherwise (share_in stack.top)
  plain_names (i.Sharing (sharings.Iterate slot otherwise)) h =
      iterates worker stack (next here) otherwise slot (share_in stack.top)
  plain_names (i.Sharing (sharings.Pick list)) h = picks worker stack (targets_of program list) (share_in stack.top)
  plain_names (i.Sharing (sharings.Single otherwise)) h =
      if_un worker stack (is_misplaced stack.top) _ _ tt (refl, (refl, tt))
  plain_names (i.Sharing sharings.EndWorksharing) h =
      worksharing_ends worker stack (next here) (innermost stack.top.constructs)
  plain_names (i.Sharing (sharings.Reduce reduction copy p)) h = (
    object_uncounted stack.top (place.Slot copy) 0 mode.Read,
    (object_uncounted stack.top p 0 mode.Write, tt),
  )
  plain_names (i.Region (regionals.Masked otherwise)) h =
      masks worker stack (next here) otherwise (int_at 0 (operands here))
  plain_names (i.Region regionals.EndMasked) h = masked_ends worker stack (next here) (innermost stack.top.constructs)
  plain_names (i.Region (regionals.AskCritical lock)) h = (refl, tt)
  plain_names (i.Region (regionals.EnterCritical lock)) h = (refl, (refl, tt))
  plain_names (i.Region (regionals.LeaveCritical lock)) h =
      if_un worker stack (is_critical lock (innermost stack.top.constructs)) _ _ (refl, (refl, tt)) tt
  plain_names (i.Task (taskings.Spawn body values)) h = absurd h
  plain_names (i.Task taskings.TaskEnd) h = absurd h
  plain_names (i.Task taskings.WaitBegin) h = (refl, tt)
  plain_names (i.Task taskings.WaitEnd) h = (refl, (refl, tt))
  plain_names (i.Task taskings.Yield) h = tt
  plain_names (i.Task taskings.GroupBegin) h = groups_begin worker stack (next here) (born stack.top)
  plain_names (i.Task taskings.GroupEnd) h =
      groups_end worker stack (next here) (innermost_group (innermost stack.top.constructs))
