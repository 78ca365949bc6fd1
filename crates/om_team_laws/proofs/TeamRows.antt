-- The rows of serial instructions, calls, teams, barriers and tasks are among the cases.
use Rattle.std.proofs.Common.{◌≡◌, refl, ℕ, zero, suc, ◌+◌, ◌-◌, ◌≤◌, ℤ, pos, negsuc, arith}
use Rattle.std.proofs.Common.{Bool, true, false, if◌then◌else◌, Option, None, Some, List, [], ◌∷◌, ◌++◌, length}
use Rattle.std.specs.Prelude.{Result, Ok, Err, nat_eq, nat_le, nat_lt, unwrap_or}
use Rattle.std.specs.Cmp.Lexicographic.{pointwise}
use Rattle.om_foot.specs.Names.{above}
use Rattle.om_foot.specs.declared.footprint.Access.{Access}
use Rattle.om_foot.specs.declared.object.Obj.TheVariants as obj
use Rattle.om_code.specs.declared.act.Turn.{Turn}
use Rattle.om_code.specs.declared.act.Turn.TheVariants as turn
use Rattle.om_code.specs.declared.frame.Cell as cells
use Rattle.om_code.specs.declared.frame.Cell.TheVariants as cell
use Rattle.om_code.specs.declared.frame.Fault.{Fault}
use Rattle.om_code.specs.declared.frame.Fault.TheVariants as fault
use Rattle.om_code.specs.declared.frame.Operand.{Operand}
use Rattle.om_code.specs.declared.instruction.Barrier.{Barrier}
use Rattle.om_code.specs.declared.instruction.Place.{Place}
use Rattle.om_code.specs.declared.instruction.Place.TheVariants as place
use Rattle.om_code.specs.declared.instruction.Reduction.{Reduction}
use Rattle.om_code.specs.declared.instruction.Serial.{Serial}
use Rattle.om_code.specs.declared.raw.Body.{Body}
use Rattle.om_code.specs.declared.raw.Raw.{Raw}
use Rattle.om_code.specs.declared.raw.Slot.{Slot}
use Rattle.om_code.specs.Arithmetic.{combine}
use Rattle.om_code.specs.Frames.{Touch, act}
use Rattle.om_code.specs.Frames as touch
use Rattle.om_code.specs.Printing.{ints_on}
use Rattle.om_events.specs.declared.kind.TaskStatus as statuses
use Rattle.om_state.specs.declared.control.Context.{Context}
use Rattle.om_state.specs.declared.control.Construct.{Construct}
use Rattle.om_state.specs.declared.control.Construct.TheVariants as construct
use Rattle.om_state.specs.declared.control.Edit.TheVariants.{Go, BeginFrame, EndFrame, Open, Close, CountBirth, CountPhase}
use Rattle.om_state.specs.declared.control.Edit.TheVariants.{End}
use Rattle.om_state.specs.declared.control.Frame.{Frame}
use Rattle.om_state.specs.declared.control.Kind.{Kind}
use Rattle.om_state.specs.declared.control.Kind.TheVariants as kind
use Rattle.om_state.specs.declared.control.Stack.{Stack}
use Rattle.om_state.specs.declared.control.Team.{Team}
use Rattle.om_state.specs.declared.step.Blocked.TheVariants as blocked
use Rattle.om_state.specs.declared.step.Update.{Update}
use Rattle.om_state.specs.declared.value.Task as tasks
use Rattle.om_state.specs.declared.value.Task.TheVariants as task
use Rattle.om_state.specs.Edits.{value_given}
use Rattle.om_state.specs.State.{State, values_read}
use Rattle.om_state.specs.Values.{cell_in, count_in, task_in}
use Rattle.om_team_serial.specs.declared.row.Launch.{Launch}
use Rattle.om_team_serial.specs.declared.row.Row.{Row}
use Rattle.om_team_serial.specs.Begins.{first_frame}
use Rattle.om_team_serial.specs.Ends.{finished, finished_row, finish_row, value_of}
use Rattle.om_team_serial.specs.Objects.{events, group_name, homes_in, innermost, object_of, own_cells, read, write}
use Rattle.om_team_serial.specs.Rows.{Asked, goes, is_zero}
use Rattle.om_team_serial.specs.SerialRows.{call_row, cells_of_slot, number_row, put_combined, put_of, reduce_row}
use Rattle.om_team_serial.specs.SerialRows.{reduced, return_row, row_of, serial_row, slots_in, touch_row, unsets}
use Rattle.om_team_worksharing.specs.Barriers.{is_open}
use Rattle.om_team_worksharing.specs.Rows.{arrive_row, depart_row, departed, is_misplaced_barrier, leave_row, left}
use Rattle.om_team_worksharing.specs.Rows.{left_row}
use Rattle.om_team.specs.Rows.{begin_row, fork_row, forked, named_row, sized_row, team_of, team_row}
use Rattle.om_team.specs.Teams.{first_busy, member_cells, workers_from}
use Rattle.om_task.specs.declared.task.Making.{Making}
use Rattle.om_task.specs.Rows.{closed, closed_row, end_row_of, ended_row, given_row, group_begin_row, group_end_row}
use Rattle.om_task.specs.Rows.{made_row, opened_row, ready_for, spawn_row, start_row, started, started_row, task_end_row}
use Rattle.om_task.specs.Rows.{task_yield_row, wait_begin_row, wait_end_row, waited}
use Rattle.om_task.specs.Tasks.{born, group_of, innermost_group, ready_of}
use Rattle.om_team_laws.specs.Works.{hands}
use Rattle.om_team_laws.proofs.Cases.{Covers, IsLike}
use Rattle.om_team_laws.proofs.Likes.{like_close, like_open, like_same}
use Rattle.om_team_laws.proofs.Regions.{IsOther, closed_hands}
use Rattle.om_team_laws.proofs.Traced.{AreUntraced, barrier_untraced, counts_untraced, given_untraced, members_untraced}
use Rattle.om_team_laws.proofs.Traced.{object_untraced, own_untraced, slot_untraced, untraced_append}

module _ (worker : ℕ) (stack : Stack) (s : State) (P : List Access → Row → Type 0)
    (k : Covers worker stack s P) where
  abbrev pub Meets : Asked → Type 0
  Meets a = P a.names (a.row (values_read a.names s))

  pub if_meets : (b : Bool) (x y : Asked) → (b ≡ true → Meets x) → (b ≡ false → Meets y) → Meets (if b then x else y)
  if_meets true x y h g = h refl
  if_meets false x y h g = g refl

  -- it goes to a place, with other operands
  pub go : (names : List Access) (to takes : ℕ) (pushed : Option Operand) (us : List Update) → AreUntraced names
      → P names (goes to takes pushed us)
  go names to takes pushed us h =
      k.goes names (Go to takes pushed ∷ []) us h (
        like_same stack.top _ (record { task = refl; kind = refl; team = refl; births = omega arith; regions = refl }) refl,
        refl,
      ) (λ region iteration. omega arith)

  -- ---- serial instructions, calls and returns

  turned : (names : List Access) (to : ℕ) (us : List Update) (t : Turn) → AreUntraced names → P names (row_of to us t)
  turned names to us (turn.Goes jump takes pushed put) h =
      go names (unwrap_or jump to) takes pushed (put_of put ++ us) h
  turned names to us (turn.Faults f) h = k.faults names f
  turned names to us turn.Lacks h = k.lacks names
  turned names to us (turn.Returns v) h = k.lacks names
  turned names to us (turn.Finishes v) h = k.lacks names

  touched : (raw : Raw) (t : cells.Cell → Turn) (x : Touch) → Meets (touch_row raw stack.top t x)
  touched raw t touch.Nothing = turned [] (stack.top.frame.next + 1) [] (t cell.Unset) tt
  touched raw t (touch.Reads p index) =
      turned (read (object_of stack.top p index) ∷ []) (stack.top.frame.next + 1) []
      (t (cell_in (s (object_of stack.top p index)))) (object_untraced stack.top p index, tt)
  touched raw t (touch.Writes p index) =
      turned (write (object_of stack.top p index) ∷ []) (stack.top.frame.next + 1) []
      (t (cell_in (s (object_of stack.top p index)))) (object_untraced stack.top p index, tt)
  touched raw t (touch.Clears slot) =
      turned (cells_of_slot raw stack.top slot) (stack.top.frame.next + 1) (unsets (cells_of_slot raw stack.top slot))
      (t cell.Unset) (slot_untraced _ _ slot _ 0 _)
  touched raw t (touch.Prints text count) =
      turned (write obj.Output ∷ []) (stack.top.frame.next + 1) _ (t cell.Unset) (refl, tt)

  pub serial_meets : (raw : Raw) (instr : Serial) → Meets (serial_row raw stack.top instr)
  serial_meets raw instr =
      touched raw (act raw (slots_in raw stack.top) instr stack.top.frame.operands).turn
      (act raw (slots_in raw stack.top) instr stack.top.frame.operands).touch

  pub number_meets : (n : ℕ) → Meets (number_row stack.top n)
  number_meets n = go [] (stack.top.frame.next + 1) 0 _ [] tt

  pub call_meets : (launch : Launch) (body : Body) (ints : Option (List ℤ))
      → Meets (call_row launch body stack.top ints)
  call_meets launch body None = k.lacks []
  call_meets launch body (Some ns) =
      if_meets (nat_le 999 (length stack.top.callers)) _ _ (λ e. k.faults [] fault.Frames)
      (λ e. k.goes _ (BeginFrame launch.to launch.takes launch.body (homes_in stack.top body.slots) ∷ []) _
      (given_untraced stack.top.task stack.top.frames body.given) (
        like_same stack.top _ (record { task = refl; kind = refl; team = refl; births = omega arith; regions = refl }) refl,
        refl,
      ) (λ region iteration. omega arith))

  pub return_meets : (slots : List Slot) (callers : List Frame) (v : Option Operand) → stack.top.callers ≡ callers
      → Meets (return_row stack.top slots callers v)
  return_meets slots callers None e = k.lacks []
  return_meets slots [] (Some v) e = k.lacks []
  return_meets slots (f ∷ callers) (Some v) e =
      k.goes _ (EndFrame v ∷ []) _ (own_untraced stack.top slots) (given v stack.top.callers) (no_more v stack.top.callers)
    where
      given : (v : Operand) (all : List Frame)
          → IsLike stack.top (value_given v all stack.top) × (stack.below ≡ stack.below)
      given v [] = (
        like_same stack.top _ (record { task = refl; kind = refl; team = refl; births = omega arith; regions = refl }) refl,
        refl,
      )
      given v (x ∷ all) = (
        like_same stack.top _ (record { task = refl; kind = refl; team = refl; births = omega arith; regions = refl }) refl,
        refl,
      )

      no_more : (v : Operand) (all : List Frame) (region iteration : ℕ)
          → hands region iteration (value_given v all stack.top).constructs ≤ hands region iteration stack.top.constructs
      no_more v [] region iteration = omega arith
      no_more v (x ∷ all) region iteration = omega arith

  combined : (names : List Access) (to : ℕ) (r : Result ℤ Fault) → AreUntraced names → P names (put_combined to r)
  combined names to (Ok v) h = go names to 0 None _ h
  combined names to (Err f) h = k.faults names f

  reduced_meets : (names : List Access) (to : ℕ) (r : Reduction) (copy original : cells.Cell) → AreUntraced names
      → P names (reduced to r copy original)
  reduced_meets names to r cell.Dead original h = k.faults names fault.Dead
  reduced_meets names to r cell.Unset cell.Dead h = k.faults names fault.Dead
  reduced_meets names to r cell.Unset cell.Unset h = k.faults names fault.Unset
  reduced_meets names to r cell.Unset (cell.Int v) h = k.faults names fault.Unset
  reduced_meets names to r (cell.Int copy) cell.Dead h = k.faults names fault.Dead
  reduced_meets names to r (cell.Int copy) cell.Unset h = k.faults names fault.Unset
  reduced_meets names to r (cell.Int copy) (cell.Int original) h = combined names to (combine r original copy) h

  pub reduce_meets : (r : Reduction) (copy : ℕ) (p : Place) → Meets (reduce_row stack.top r copy p)
  reduce_meets r copy p =
      reduced_meets _ (stack.top.frame.next + 1) r (cell_in (s (object_of stack.top (place.Slot copy) 0)))
      (cell_in (s (object_of stack.top p 0)))
      (object_untraced stack.top (place.Slot copy) 0, (object_untraced stack.top p 0, tt))

  -- ---- teams and barriers

  forked_meets : (launch : Launch) (team : Team) (frame : Frame) (ns : List ℤ) (busy : Option ℕ) (names : List Access)
      → team.number ≡ 0 → team.name ≡ stack.top.task ++ (stack.top.births + 1) ∷ [] → AreUntraced names
      → P (workers_from 1 (team.size - 1) ++ names) (forked launch stack.top.task team frame ns busy)
  forked_meets launch team frame ns (Some other) names z e h = k.blocked _ (blocked.Busy other)
  forked_meets launch team frame ns None names z e h = k.forks team frame launch.to launch.takes names _ z e h

  named_meets : (workers : ℕ) (launch : Launch) (body : Body) (asked : Option ℕ) (ns : List ℤ)
      → Meets (named_row worker workers launch body stack.top asked ns)
  named_meets workers launch body asked ns =
      if_meets (nat_lt 62 (length stack.top.task)) _ _ (λ e. k.faults [] fault.Name)
      (λ e.
      let team = team_of workers stack.top asked in
      let a = team_row worker launch body stack.top team ns in
      forked_meets launch team (first_frame launch.body (homes_in stack.top body.slots)) ns
      (first_busy 1 (team.size - 1) (values_read a.names s))
      (member_cells team.name body.given 0 team.size ++ events worker ∷ []) refl refl
      (untraced_append _ _ (members_untraced team.name body.given 0 team.size) (refl, tt)))

  sized_meets : (workers : ℕ) (launch : Launch) (body : Body) (size : Option ℤ) (ns : List ℤ)
      → Meets (sized_row worker workers launch body stack.top size ns)
  sized_meets workers launch body None ns = k.lacks []
  sized_meets workers launch body (Some (pos zero)) ns = k.faults [] fault.Size
  sized_meets workers launch body (Some (pos (suc n))) ns = named_meets workers launch body (Some (suc n)) ns
  sized_meets workers launch body (Some (negsuc n)) ns = k.faults [] fault.Size

  pub fork_meets : (workers : ℕ) (launch : Launch) (body : Body) (sized : Bool) (size : Option ℤ)
      (ints : Option (List ℤ)) → Meets (fork_row worker workers launch body stack.top sized size ints)
  fork_meets workers launch body sized size None = k.lacks []
  fork_meets workers launch body false size (Some ns) = named_meets workers launch body None ns
  fork_meets workers launch body true size (Some ns) = sized_meets workers launch body size ns

  pub begin_meets : (to : ℕ) → Meets (begin_row worker to stack.top)
  begin_meets to = go _ to 0 None _ (refl, tt)

  pub arrive_meets : (to : ℕ) (b : Barrier) → Meets (arrive_row worker to b stack.top)
  arrive_meets to b =
      if_meets (is_misplaced_barrier b stack.top) _ _ (λ e. k.faults [] fault.Nesting)
      (λ e. go _ to 0 None _ (refl, (refl, tt)))

  departed_meets : (names : List Access) (to : ℕ) (b : Barrier) (opens : Bool) → AreUntraced names
      → P names (departed to b stack.top opens)
  departed_meets names to b false h = k.blocked names blocked.Barrier
  departed_meets names to b true h =
      k.goes names (Go to 0 None ∷ CountPhase ∷ []) _ h (
        like_same stack.top _ (record { task = refl; kind = refl; team = refl; births = omega arith; regions = refl }) refl,
        refl,
      ) (λ region iteration. omega arith)

  pub depart_meets : (to : ℕ) (b : Barrier) → Meets (depart_row worker to b stack.top)
  depart_meets to b =
      departed_meets _ to b
      (is_open stack.top.phase stack.top.team.size (values_read (depart_row worker to b stack.top).names s))
      (untraced_append _ _ (barrier_untraced stack.top.team stack.top.phase) (refl, tt))

  left_meets : (names : List Access) (below : List Context) (own : List Access) (opens : Bool)
      → stack.top.kind ≡ kind.Implicit → AreUntraced names → P names (left stack.top below own opens)
  left_meets names below own false e h = k.blocked names blocked.Barrier
  left_meets names below own true e h = k.leaves names _ h e

  left_row_meets : (below : List Context) (slots : List Slot) → stack.top.kind ≡ kind.Implicit
      → Meets (left_row worker stack.top below (own_cells stack.top slots))
  left_row_meets below slots e =
      let a = left_row worker stack.top below (own_cells stack.top slots) in
      left_meets a.names below (own_cells stack.top slots)
      (is_open stack.top.phase stack.top.team.size (values_read a.names s)) e
      (untraced_append _ _ (barrier_untraced stack.top.team stack.top.phase)
      (untraced_append _ _ (own_untraced stack.top slots) (refl, tt)))

  pub leave_meets : (below : List Context) (slots : List Slot) (which : Kind) (number : ℕ) → stack.top.kind ≡ which
      → Meets (leave_row worker stack.top below slots which number)
  leave_meets below slots kind.Initial number e = k.lacks []
  leave_meets below slots kind.Explicit number e = k.lacks []
  leave_meets [] slots kind.Implicit zero e = k.lacks []
  leave_meets [] slots kind.Implicit (suc n) e = left_row_meets [] slots e
  leave_meets (c ∷ below) slots kind.Implicit zero e = left_row_meets (c ∷ below) slots e
  leave_meets (c ∷ below) slots kind.Implicit (suc n) e = left_row_meets (c ∷ below) slots e

  -- ---- the end of the program

  finished_meets : (names : List Access) (n : ℤ) (over : Bool) → AreUntraced names
      → P names (finished stack.top n over)
  finished_meets names n true h = k.goes names (End n ∷ []) _ h tt tt
  finished_meets names n false h = k.blocked names blocked.Children

  finished_row_meets : (which : Kind) (v : Option ℤ) → Meets (finished_row worker stack.top which v)
  finished_row_meets kind.Implicit v = k.lacks []
  finished_row_meets kind.Explicit v = k.lacks []
  finished_row_meets kind.Initial None = k.lacks []
  finished_row_meets kind.Initial (Some n) = finished_meets _ n
      (is_zero (count_in (s (obj.Pending stack.top.team.name stack.top.phase)))) (refl, (refl, tt))

  pub finish_meets : (has_value : Bool) → Meets (finish_row worker stack.top has_value)
  finish_meets has_value = finished_row_meets stack.top.kind (value_of stack.top has_value)

  -- ---- tasks

  made_meets : (m : Making) (body : Body) (ns : List ℤ) (new : Option (List ℕ)) → born stack.top ≡ new
      → Meets (made_row m body stack.top ns new)
  made_meets m body ns None e = k.faults [] fault.Name
  made_meets m body ns (Some new) e =
      k.makes new (ready_of m body stack.top) m.launch.to m.launch.takes _ _ e
      (untraced_append _ _ (given_untraced new 0 body.given)
      (counts_untraced stack.top.task stack.top (group_of stack.top) m.worker))

  given_meets : (m : Making) (body : Body) (ints : Option (List ℤ)) → Meets (given_row m body stack.top ints)
  given_meets m body None = k.lacks []
  given_meets m body (Some ns) = made_meets m body ns (born stack.top) refl

  pub spawn_meets : (m : Making) (body : Body) → Meets (spawn_row m body stack.top)
  spawn_meets m body = given_meets m body (ints_on m.launch.takes stack.top.frame.operands)

  ended_meets : (below : List Context) (slots : List Slot) → stack.top.kind ≡ kind.Explicit → stack.below ≡ below
      → Meets (ended_row worker stack.top below (own_cells stack.top slots))
  ended_meets [] slots e f = k.lacks []
  ended_meets (next ∷ below) slots e f =
      k.ends next below _ _ e f
      (untraced_append _ _ (own_untraced stack.top slots)
      (counts_untraced (above stack.top.task) stack.top stack.top.group worker))

  end_meets : (slots : List Slot) (which : Kind) → stack.top.kind ≡ which → Meets (end_row_of worker stack slots which)
  end_meets slots kind.Initial e = k.lacks []
  end_meets slots kind.Implicit e = k.lacks []
  end_meets slots kind.Explicit e = ended_meets stack.below slots e refl

  pub task_end_meets : (slots : List Slot) → Meets (task_end_row worker stack slots)
  task_end_meets slots = end_meets slots stack.top.kind refl

  pub wait_begin_meets : (to : ℕ) → Meets (wait_begin_row worker to stack.top)
  wait_begin_meets to = go _ to 0 None _ (refl, tt)

  waited_meets : (names : List Access) (to : ℕ) (over : Bool) → AreUntraced names → P names (waited to stack.top over)
  waited_meets names to true h = go names to 0 None _ h
  waited_meets names to false h = k.blocked names blocked.Children

  pub wait_end_meets : (to : ℕ) → Meets (wait_end_row worker to stack.top)
  wait_end_meets to =
      waited_meets _ to (is_zero (count_in (s (obj.Kids stack.top.task)))) (refl, (refl, tt))

  pub yield_meets : (to : ℕ) → Meets (task_yield_row to)
  yield_meets to = go [] to 0 None [] tt

  opened_meets : (to : ℕ) (group : Option (List ℕ)) → Meets (opened_row worker to stack.top group)
  opened_meets to None = k.faults [] fault.Name
  opened_meets to (Some group) =
      k.goes _ (Go to 0 None ∷ CountBirth ∷ Open (construct.Group group) ∷ []) _ (refl, tt) (
        like_open stack.top _ (construct.Group group) (record { task = refl; kind = refl; team = refl; births = omega arith; regions = refl }) refl
            (λ lock. refl) (λ which. refl) (λ region iteration. refl) tt,
        refl,
      ) (λ region iteration. omega arith)

  pub group_begin_meets : (to : ℕ) → Meets (group_begin_row worker to stack.top)
  group_begin_meets to = opened_meets to (born stack.top)

  -- the innermost region is a group
  closed_meets : (names : List Access) (to : ℕ) (over : Bool) (x : Construct) (group : List ℕ)
      → innermost stack.top.constructs ≡ Some x → group_name x ≡ Some group → AreUntraced names
      → P names (closed to stack.top over)
  closed_meets names to false x group e g h = k.blocked names blocked.Group
  closed_meets names to true x group e g h =
      k.goes names (Go to 0 None ∷ Close ∷ []) _ h (
        like_close stack.top _ x (record { task = refl; kind = refl; team = refl; births = omega arith; regions = refl }) refl e
            (no_critical x g),
        refl,
      ) (closed_hands stack.top.constructs)
    where
      no_critical : (x : Construct) → group_name x ≡ Some group → IsOther x
      no_critical (construct.Group name) g lock = refl
      no_critical (construct.Share share) g lock = refl
      no_critical (construct.Single runs) g lock = refl
      no_critical construct.Masked g lock = refl
      no_critical (construct.Critical held) g lock = cc

  closed_row_meets : (to : ℕ) (region : Option Construct) (group : Option (List ℕ))
      → innermost stack.top.constructs ≡ region → innermost_group region ≡ group
      → Meets (closed_row worker to stack.top group)
  closed_row_meets to region None e g = k.lacks []
  closed_row_meets to None (Some group) e g = cc
  closed_row_meets to (Some x) (Some group) e g = closed_meets _ to
      (is_zero (count_in (s (obj.Group group)))) x group e g (refl, (refl, tt))

  pub group_end_meets : (to : ℕ) → Meets (group_end_row worker to stack.top)
  group_end_meets to =
      closed_row_meets to (innermost stack.top.constructs) (innermost_group (innermost stack.top.constructs)) refl refl

  -- ---- a task is started

  started_meets : (names : List Access) (name : List ℕ) (st : statuses.TaskStatus) (t : tasks.Task)
      → task_in (s (obj.Task name)) ≡ t → AreUntraced names
      → P (write (obj.Task name) ∷ names) (started worker name stack.top st (ready_for stack.top.team.name t))
  started_meets names name st task.Absent e h = k.blocked _ blocked.Task
  started_meets names name st (task.Running other) e h = k.blocked _ blocked.Task
  started_meets names name st task.Done e h = k.blocked _ blocked.Task
  started_meets names name st (task.Ready ready) e h = of_team (pointwise nat_eq ready.team stack.top.team.name)
    where
      of_team : (b : Bool) → P (write (obj.Task name) ∷ names)
          (started worker name stack.top st (if b then Some ready else None))
      of_team true = k.begins name ready names _ e h
      of_team false = k.blocked _ blocked.Task

  started_row_meets : (name : List ℕ) (admits : Bool) (st : Option statuses.TaskStatus)
      → Meets (started_row worker name stack.top admits st)
  started_row_meets name admits None = k.blocked [] blocked.Place
  started_row_meets name false (Some st) = k.blocked [] blocked.Task
  started_row_meets name true (Some st) =
      started_meets _ name st (task_in (s (obj.Task name))) refl (refl, tt)

  pub start_meets : (st : Option statuses.TaskStatus) (admits : Bool) (name : List ℕ)
      → Meets (start_row (record { worker = worker; status = st; admits = admits }) name stack.top)
  start_meets st admits name = started_row_meets name admits st
