-- The row of each choice leads from a stack that stands to one that does.
use Rattle.std.proofs.Common.{◌≡◌, inl, inr, refl, subst, sym, ℕ, ◌+◌, ◌≤◌, arith, Bool, true, false, List, [], ◌∷◌, Option, None}
use Rattle.std.proofs.Common.{Some, length, option_map}
use Rattle.std.specs.Prelude.{Contains, slice_get, slice_index_or, option_to_list, unwrap_or, pos}
use Rattle.std.proofs.lemmas.Option.{slice_get_within, get_or_from_slice_get, unwrap_or-slice_get}
use Rattle.om_code.specs.declared.frame.Operand.{Operand}
use Rattle.om_code.specs.declared.frame.Operand.TheVariants.{Int, NoValue}
use Rattle.om_code.specs.declared.instruction.Instr.{Instr}
use Rattle.om_code.specs.declared.instruction.Instr.TheVariants as i
use Rattle.om_code.specs.declared.instruction.Serial.{Serial}
use Rattle.om_code.specs.declared.instruction.Function.TheVariants as calls
use Rattle.om_code.specs.declared.instruction.Team.TheVariants as teams
use Rattle.om_code.specs.declared.instruction.Sharing.TheVariants as sharings
use Rattle.om_code.specs.declared.instruction.Region.TheVariants as regionals
use Rattle.om_code.specs.declared.instruction.Task.TheVariants as taskings
use Rattle.om_code.specs.declared.raw.Raw.{Raw}
use Rattle.om_code.specs.declared.act.Turn.{Turn}
use Rattle.om_code.specs.declared.act.Turn.TheVariants as turn
use Rattle.om_code.specs.Frames.{IsRight, act, int_at}
use Rattle.om_code.specs.Printing.{ints_on}
use Rattle.om_code.specs.Validity.{IsValid, IsKnownBody}
use Rattle.om_code.specs.Ways.{pops, pushes, exits, places, successors}
use Rattle.om_code.specs.declared.instruction.Exits.TheVariants as leads_to
use Rattle.om_code.specs.Contained.{Contains-here, Contains-there}
use Rattle.om_code.specs.Rights.{act_right}
use Rattle.om_state.specs.declared.control.Stack.{Stack}
use Rattle.om_state.specs.declared.control.Control.TheVariants.{Running}
use Rattle.om_state.specs.declared.step.Choice.{Choice}
use Rattle.om_state.specs.declared.step.Choice.TheVariants.{Next, Start}
use Rattle.om_state.specs.declared.step.Label.{Label}
use Rattle.om_state.specs.declared.value.Val.{Val}
use Rattle.om_state.specs.State.{State, values_read}
use Rattle.om_team_serial.specs.Objects.{innermost}
use Rattle.om_team_serial.specs.SerialRows.{serial_row, slots_in}
use Rattle.om_team_worksharing.specs.Rows.{share_in}
use Rattle.om_team_serial.specs.Sites.{site}
use Rattle.om_task.specs.Rules.{choice_row, leaving, admits_all, further_in, row_in}
use Rattle.om_team_serial.specs.Sites.{Site, context, operands, next, slots, line, launch, body_of, lock_of, targets_of}
use Rattle.om_task.specs.Table.{row_of}
use Rattle.om_soundness.specs.Standing.{Owned, IsStandingFrame, IsStandingControl, IsStanding}
use Rattle.om_soundness.proofs.Homes.{HasOwn, around, around_none, begins, begun_frame}
use Rattle.om_soundness.proofs.Going.{StandsAt, stands_at, found_slots, goes_on}
use Rattle.om_soundness.proofs.Bounds.{RowMakes, RowBehind, Behind, AskedStands, Leads}
use Rattle.om_soundness.proofs.ShareRows.{loop_stands, sections_stand, grab_stands, iterate_stands, pick_stands}
use Rattle.om_soundness.proofs.ShareRows.{single_stands, end_worksharing_stands, masked_stands, end_masked_stands}
use Rattle.om_soundness.proofs.ShareRows.{ask_critical_stands, enter_critical_stands, leave_critical_stands}
use Rattle.om_soundness.proofs.TaskRows.{TurnLeads, serial_stands, call_stands, return_stands, reduce_stands}
use Rattle.om_soundness.proofs.TaskRows.{fork_stands, begin_stands, arrive_stands, depart_stands, leave_stands}
use Rattle.om_soundness.proofs.TaskRows.{spawn_stands, task_end_stands, wait_begin_stands, wait_end_stands}
use Rattle.om_soundness.proofs.TaskRows.{group_begin_stands, group_end_stands, finish_stands, start_stands}
use Rattle.om_code.specs.Places.{slots_of}

module _ (owned : Owned) where
  -- a stack that stands, whose instruction is this one
  record IsAt (program : Raw) (stack : Stack) (instr : Instr) : Type 0 where
    at : StandsAt program owned stack.top.frame instr
    own : HasOwn owned stack.top at.body.slots
    control : IsStandingControl program owned (Running stack)

  leads : (program : Raw) (stack : Stack) (instr : Instr) (to takes : ℕ) (pushed : Option Operand)
      → IsAt program stack instr → takes ≤ pops instr
      → pops instr + length (option_to_list pushed) ≡ takes + pushes instr
      → Contains (successors program.picks stack.top.frame.next instr) to → Leads program owned stack to takes pushed
  leads program stack instr to takes pushed h few left goes = (
    record {
      frame = goes_on program owned stack.top.frame instr 0 to takes pushed h.at few
          (omega (arith, left)) goes;
      callers = h.control.0.callers;
      member = h.control.0.member;
      named = h.control.0.named;
    },
    h.control.1,
  )

  turn_leads : (program : Raw) (stack : Stack) (instr : Instr) (t : Turn) → IsAt program stack instr → IsRight instr t
      → TurnLeads program owned stack (stack.top.frame.next + 1) t
  turn_leads program stack instr (turn.Goes jump takes pushed put) h r =
      leads program stack instr _ takes pushed h r.0 r.1 (r.2 program.picks stack.top.frame.next)
  turn_leads program stack instr (turn.Faults f) h r = tt
  turn_leads program stack instr turn.Lacks h r = tt
  turn_leads program stack instr (turn.Returns v) h r = tt
  turn_leads program stack instr (turn.Finishes v) h r = tt

  serial : (program : Raw) (stack : Stack) (instr : Serial) (values : List Val) → IsAt program stack (i.Serial instr)
      → AskedStands program owned stack (serial_row program stack.top instr) values
  serial program stack instr values h = serial_stands program owned stack stack.top instr values
      (λ y. turn_leads program stack (i.Serial instr)
      ((act program (slots_in program stack.top) instr stack.top.frame.operands).turn y) h
      (act_right program (slots_in program stack.top) instr stack.top.frame.operands y))

  -- the frame with which a team or a task begins
  begins_within : (s : Site) (instr : Instr) (body values : ℕ) (h : IsAt s.program s.stack instr)
      → IsKnownBody s.program.bodies h.at.body.slots body values
      → IsStandingFrame s.program owned
      (begun_frame s.program s.stack.top.frame.homes s.stack.top.task s.stack.top.frame.ordinal body 0)
  begins_within s instr body values h known =
      let top = s.stack.top in
      begins s.program owned h.at.body.slots top.frame.homes top.task top.frame.ordinal body values 0
      (around owned top.task top.frame.ordinal h.at.body.slots top.frame.homes h.own h.at.homes) known

  called : (s : Site) (body count : ℕ) (values : List Val) → IsAt s.program s.stack (i.Function (calls.Call body count))
      → AskedStands s.program owned s.stack (row_of s (i.Function (calls.Call body count))) values
  called s body count values h =
      let top = s.stack.top in
      call_stands s.program owned s.stack (launch s count body) (body_of s.program body) top
      (ints_on count (operands s)) values (
        record {
          frame =
              begins s.program owned [] top.frame.homes top.task top.frame.ordinal body count top.frames
              (around_none owned top.task top.frame.ordinal top.frame.homes) h.at.names;
          callers = (
            goes_on s.program owned top.frame (i.Function (calls.Call body count)) 1 (next s) count None h.at (omega arith)
                (omega arith) (Contains-here (next s) []),
            h.control.0.callers,
          );
          member = h.control.0.member;
          named = h.control.0.named;
        },
        h.control.1,
      )

  forked : (s : Site) (body count : ℕ) (sized : Bool) (values : List Val) → 1 ≤ s.workers
      → IsAt s.program s.stack (i.Team (teams.Fork body sized count))
      → AskedStands s.program owned s.stack (row_of s (i.Team (teams.Fork body sized count))) values
  forked s body count true values some h =
      fork_stands s.program owned s.stack s.worker s.workers (launch s (count + 1) body) (body_of s.program body)
      (context s) true (int_at count (operands s)) (ints_on count (operands s)) values some
      (leads s.program s.stack (i.Team (teams.Fork body true count)) (next s) (count + 1) None h (omega arith) (omega arith)
      (Contains-here (next s) [])) (begins_within s (i.Team (teams.Fork body true count)) body count h h.at.names)
  forked s body count false values some h =
      fork_stands s.program owned s.stack s.worker s.workers (launch s count body) (body_of s.program body)
      (context s) false (int_at count (operands s)) (ints_on count (operands s)) values some
      (leads s.program s.stack (i.Team (teams.Fork body false count)) (next s) count None h (omega arith) (omega arith)
      (Contains-here (next s) [])) (begins_within s (i.Team (teams.Fork body false count)) body count h h.at.names)

  spawned : (s : Site) (body count : ℕ) (values : List Val) → IsAt s.program s.stack (i.Task (taskings.Spawn body count))
      → RowMakes s.program owned (Running s.stack) (row_of s (i.Task (taskings.Spawn body count))).names
      ((row_of s (i.Task (taskings.Spawn body count))).row values)
  spawned s body count values h =
      spawn_stands s.program owned s.stack (record { worker = s.worker; line = line s; launch = launch s count body })
      (body_of s.program body) (context s) values
      (leads s.program s.stack (i.Task (taskings.Spawn body count)) (next s) count None h (omega arith) (omega arith)
      (Contains-here (next s) [])) (begins_within s (i.Task (taskings.Spawn body count)) body count h h.at.names)

  -- a target of a list of PICK
  target : (picks : List (List ℕ)) (list k to : ℕ) → slice_get (unwrap_or (slice_get picks list) []) k ≡ Some to
      → Contains (slice_index_or picks list []) to
  target picks list k to e =
      subst (λ xs. Contains xs to) (unwrap_or-slice_get picks list [])
      (k, slice_get_within _ k to e, get_or_from_slice_get _ k to to e)

  picked : (s : Site) (list : ℕ) (values : List Val) → IsAt s.program s.stack (i.Sharing (sharings.Pick list))
      → AskedStands s.program owned s.stack (row_of s (i.Sharing (sharings.Pick list))) values
  picked s list values h =
      pick_stands s.program owned s.stack (targets_of s.program list) (share_in (context s)) values
      (λ k to e. leads s.program s.stack (i.Sharing (sharings.Pick list)) to 0 None h (omega arith) refl
      (target s.program.picks list k to e))

  -- to the next instruction, with so many operands taken
  to_next : (s : Site) (instr : Instr) (takes : ℕ) → exits instr ≡ leads_to.Next → IsAt s.program s.stack instr
      → takes ≡ pops instr → pushes instr ≡ 0 → Leads s.program owned s.stack (next s) takes None
  to_next s instr takes e h few none =
      leads s.program s.stack instr (next s) takes None h (omega (arith, few)) (omega (arith, few, none))
      (subst (λ x. Contains (places s.program.picks s.stack.top.frame.next x) (next s)) (sym e)
      (Contains-here (next s) []))

  -- to the next instruction, and to the other one, of an instruction that branches
  to_first : (s : Site) (instr : Instr) (target takes : ℕ) → exits instr ≡ leads_to.Either target
      → IsAt s.program s.stack instr → takes ≡ pops instr → pushes instr ≡ 0
      → Leads s.program owned s.stack (next s) takes None
  to_first s instr target takes e h few none =
      leads s.program s.stack instr (next s) takes None h (omega (arith, few)) (omega (arith, few, none))
      (subst (λ x. Contains (places s.program.picks s.stack.top.frame.next x) (next s)) (sym e)
      (Contains-here (next s) (target ∷ [])))

  to_other : (s : Site) (instr : Instr) (target takes : ℕ) → exits instr ≡ leads_to.Either target
      → IsAt s.program s.stack instr → takes ≡ pops instr → pushes instr ≡ 0
      → Leads s.program owned s.stack target takes None
  to_other s instr target takes e h few none =
      leads s.program s.stack instr target takes None h (omega (arith, few)) (omega (arith, few, none))
      (subst (λ x. Contains (places s.program.picks s.stack.top.frame.next x) target) (sym e)
      (Contains-there (next s) target (target ∷ []) (Contains-here target [])))

  instruction_stands : (s : Site) (instr : Instr) (values : List Val) → 1 ≤ s.workers → IsAt s.program s.stack instr
      → Behind s.program owned s.stack (row_of s instr) values
  instruction_stands s (i.Team teams.ThreadNumber) values some h =
      inl ((
        leads s.program s.stack (i.Team teams.ThreadNumber) (next s) 0 (Some (Int (pos (context s).team.number))) h
            (omega arith) refl (Contains-here (next s) []),
        tt,
      ))
  instruction_stands s (i.Team teams.TeamSize) values some h =
      inl ((
        leads s.program s.stack (i.Team teams.TeamSize) (next s) 0 (Some (Int (pos (context s).team.size))) h (omega arith) refl
            (Contains-here (next s) []),
        tt,
      ))
  instruction_stands s (i.Function (calls.Call body count)) values some h =
      inl (called s body count values h)
  instruction_stands s (i.Function calls.Return) values some h =
      inl (return_stands s.program owned s.stack (context s) (slots s) (context s).callers
      (option_map Int (int_at 0 (operands s))) values h.control)
  instruction_stands s (i.Function calls.ReturnNothing) values some h =
      inl (return_stands s.program owned s.stack (context s) (slots s) (context s).callers (Some NoValue) values h.control)
  instruction_stands s (i.Sharing (sharings.Reduce reduction copy place)) values some h =
      inl (reduce_stands s.program owned s.stack (context s) reduction copy place values
      (to_next s (i.Sharing (sharings.Reduce reduction copy place)) 0 refl h refl refl))
  instruction_stands s (i.Team (teams.Fork body sized count)) values some h =
      inl (forked s body count sized values some h)
  instruction_stands s (i.Team teams.Begin) values some h =
      inl (begin_stands s.program owned s.stack s.worker (next s) (context s) values (to_next s (i.Team teams.Begin) 0 refl h refl refl))
  instruction_stands s (i.Team (teams.Arrive barrier)) values some h =
      inl (arrive_stands s.program owned s.stack s.worker (next s) barrier (context s) values
      (to_next s (i.Team (teams.Arrive barrier)) 0 refl h refl refl))
  instruction_stands s (i.Team (teams.Depart barrier)) values some h =
      inl (depart_stands s.program owned s.stack s.worker (next s) barrier (context s) values
      (to_next s (i.Team (teams.Depart barrier)) 0 refl h refl refl))
  instruction_stands s (i.Team teams.Leave) values some h =
      inl (leave_stands s.program owned s.stack s.worker (context s) s.stack.below (slots s) (context s).kind
      (context s).team.number values h.control)
  instruction_stands s (i.Sharing (sharings.Loop form)) values some h =
      inl (loop_stands s.program owned s.stack s.worker (next s) (context s) form (int_at 1 (operands s))
      (int_at 0 (operands s)) values (to_next s (i.Sharing (sharings.Loop form)) 2 refl h refl refl))
  instruction_stands s (i.Sharing (sharings.Sections count)) values some h =
      inl (sections_stand s.program owned s.stack s.worker (next s) (context s) count values
      (to_next s (i.Sharing (sharings.Sections count)) 0 refl h refl refl))
  instruction_stands s (i.Sharing (sharings.Grab otherwise)) values some h =
      inl (grab_stands s.program owned s.stack (next s) otherwise (context s) (share_in (context s)) values
      (to_first s (i.Sharing (sharings.Grab otherwise)) otherwise 0 refl h refl refl)
      (to_other s (i.Sharing (sharings.Grab otherwise)) otherwise 0 refl h refl refl))
  instruction_stands s (i.Sharing (sharings.Iterate slot otherwise)) values some h =
      inl (iterate_stands s.program owned s.stack (next s) otherwise (context s) slot (share_in (context s)) values
      (to_first s (i.Sharing (sharings.Iterate slot otherwise)) otherwise 0 refl h refl refl)
      (to_other s (i.Sharing (sharings.Iterate slot otherwise)) otherwise 0 refl h refl refl))
  instruction_stands s (i.Sharing (sharings.Pick list)) values some h =
      inl (picked s list values h)
  instruction_stands s (i.Sharing (sharings.Single otherwise)) values some h =
      inl (single_stands s.program owned s.stack s.worker (next s) otherwise (context s) values
      (to_first s (i.Sharing (sharings.Single otherwise)) otherwise 0 refl h refl refl)
      (to_other s (i.Sharing (sharings.Single otherwise)) otherwise 0 refl h refl refl))
  instruction_stands s (i.Sharing sharings.EndWorksharing) values some h =
      inl (end_worksharing_stands s.program owned s.stack s.worker (next s) (context s)
      (innermost (context s).constructs) values (to_next s (i.Sharing sharings.EndWorksharing) 0 refl h refl refl))
  instruction_stands s (i.Region (regionals.Masked otherwise)) values some h =
      inl (masked_stands s.program owned s.stack s.worker (next s) otherwise (context s) (int_at 0 (operands s)) values
      (to_first s (i.Region (regionals.Masked otherwise)) otherwise 1 refl h refl refl)
      (to_other s (i.Region (regionals.Masked otherwise)) otherwise 1 refl h refl refl))
  instruction_stands s (i.Region regionals.EndMasked) values some h =
      inl (end_masked_stands s.program owned s.stack s.worker (next s) (context s)
      (innermost (context s).constructs) values (to_next s (i.Region regionals.EndMasked) 0 refl h refl refl))
  instruction_stands s (i.Region (regionals.AskCritical lock)) values some h =
      inl (ask_critical_stands s.program owned s.stack s.worker (next s) (lock_of s.program lock) values
      (to_next s (i.Region (regionals.AskCritical lock)) 0 refl h refl refl))
  instruction_stands s (i.Region (regionals.EnterCritical lock)) values some h =
      inl (enter_critical_stands s.program owned s.stack s.worker (next s) lock (lock_of s.program lock) values
      (to_next s (i.Region (regionals.EnterCritical lock)) 0 refl h refl refl))
  instruction_stands s (i.Region (regionals.LeaveCritical lock)) values some h =
      inl (leave_critical_stands s.program owned s.stack s.worker (next s) lock (lock_of s.program lock)
      (innermost (context s).constructs) values (to_next s (i.Region (regionals.LeaveCritical lock)) 0 refl h refl refl))
  instruction_stands s (i.Task (taskings.Spawn body count)) values some h =
      inr (spawned s body count values h)
  instruction_stands s (i.Task taskings.TaskEnd) values some h =
      inl (task_end_stands s.program owned s.stack s.worker s.stack (slots s) values h.control)
  instruction_stands s (i.Task taskings.WaitBegin) values some h =
      inl (wait_begin_stands s.program owned s.stack s.worker (next s) (context s) values
      (to_next s (i.Task taskings.WaitBegin) 0 refl h refl refl))
  instruction_stands s (i.Task taskings.WaitEnd) values some h =
      inl (wait_end_stands s.program owned s.stack s.worker (next s) (context s) values
      (to_next s (i.Task taskings.WaitEnd) 0 refl h refl refl))
  instruction_stands s (i.Task taskings.Yield) values some h =
      inl ((to_next s (i.Task taskings.Yield) 0 refl h refl refl, tt))
  instruction_stands s (i.Task taskings.GroupBegin) values some h =
      inl (group_begin_stands s.program owned s.stack s.worker (next s) (context s) values
      (to_next s (i.Task taskings.GroupBegin) 0 refl h refl refl))
  instruction_stands s (i.Task taskings.GroupEnd) values some h =
      inl (group_end_stands s.program owned s.stack s.worker (next s) (context s) values
      (to_next s (i.Task taskings.GroupEnd) 0 refl h refl refl))
  instruction_stands s (i.Function (calls.Finish has_value)) values some h =
      inl (finish_stands s.program owned s.stack s.worker (context s) has_value values)
  instruction_stands s (i.Serial x) values some h = inl (serial s.program s.stack x values h)

  choice_stands : (s : Site) (instr : Instr) (choice : Choice) (t : State) → 1 ≤ s.workers
      → IsAt s.program s.stack instr → IsStanding s.program owned t
      → Behind s.program owned s.stack (choice_row s (Some instr) choice)
      (values_read (choice_row s (Some instr) choice).names t)
  choice_stands s instr Next t some h v = instruction_stands s instr (values_read (row_of s instr).names t) some h
  choice_stands s instr (Start name) t some h v =
      inl (start_stands s.program owned s.stack
      (record {
        worker = s.worker;
        status = leaving (Some instr);
        admits = admits_all s.program name
            (s.stack.top ∷ s.stack.below);
      }) name s.stack.top t v h.control.0.member h.control)

  -- the row of a worker that runs
  pub row_stands : (program : Raw) (workers : ℕ) (l : Label) (stack : Stack) (t : State) → IsValid program
      → 1 ≤ workers → HasOwn owned stack.top (slots_of program stack.top.frame.body)
      → IsStandingControl program owned (Running stack) → IsStanding program owned t
      → RowBehind program owned stack (further_in program workers l (Running stack))
      (row_in program workers l (Running stack) (values_read (further_in program workers l (Running stack)) t))
  row_stands program workers l stack t valid some own h v =
      let s : Site = site program workers l.worker stack in
      let f = stands_at program owned stack.top.frame valid h.0.frame in
      let its_own =
      subst (HasOwn owned stack.top) (found_slots program stack.top.frame.body f.2.body f.2.found) own in
      subst (λ (o : Option Instr). Behind program owned stack (choice_row s o l.choice)
      (values_read (choice_row s o l.choice).names t)) (sym f.1)
      (choice_stands s f.0 l.choice t some (record { at = f.2; own = its_own; control = h }) v)
