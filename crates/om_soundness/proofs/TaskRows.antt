-- The rows of serial instructions, calls, parallel regions, barriers and tasks lead from a stack that stands to one
-- that does.
use Rattle.std.proofs.Common.{◌≡◌, refl, subst, ℕ, zero, suc, ◌+◌, ◌-◌, ◌≤◌, arith, ℤ, pos, negsuc, Bool, true, false}
use Rattle.std.proofs.Common.{if◌then◌else◌, cond, List, [], ◌∷◌, ◌++◌, Option, None, Some, length}
use Rattle.std.specs.Prelude.{Result, Ok, Err, IfSome, min, nat_lt, nat_le, nat_eq, unwrap_or}
use Rattle.std.specs.Cmp.Lexicographic.{pointwise}
use Rattle.om_foot.specs.declared.footprint.Access.{Access}
use Rattle.om_code.specs.declared.frame.Cell as cells
use Rattle.om_code.specs.declared.frame.Cell.TheVariants as cell
use Rattle.om_code.specs.declared.frame.Fault.{Fault}
use Rattle.om_code.specs.declared.frame.Operand.{Operand}
use Rattle.om_code.specs.declared.instruction.Barrier.{Barrier}
use Rattle.om_code.specs.declared.instruction.Serial.{Serial}
use Rattle.om_code.specs.declared.instruction.Place.{Place}
use Rattle.om_code.specs.declared.instruction.Reduction.{Reduction}
use Rattle.om_code.specs.declared.raw.Body.{Body}
use Rattle.om_code.specs.declared.raw.Raw.{Raw}
use Rattle.om_code.specs.declared.raw.Slot.{Slot}
use Rattle.om_code.specs.Frames.{Touch}
use Rattle.om_code.specs.Frames as touch
use Rattle.om_code.specs.declared.act.Turn.{Turn}
use Rattle.om_code.specs.declared.act.Turn.TheVariants as turn
use Rattle.om_code.specs.Arithmetic.{combine}
use Rattle.om_code.specs.Frames.{act}
use Rattle.om_code.specs.Printing.{ints_on}
use Rattle.om_events.specs.declared.kind.TaskStatus as statuses
use Rattle.om_state.specs.declared.control.Context.{Context}
use Rattle.om_state.specs.declared.control.Frame.{Frame}
use Rattle.om_state.specs.declared.control.Kind.{Kind}
use Rattle.om_state.specs.declared.control.Kind.TheVariants as kind
use Rattle.om_state.specs.declared.control.Stack.{Stack}
use Rattle.om_state.specs.declared.control.Team.{Team}
use Rattle.om_state.specs.declared.control.Control.TheVariants.{Running}
use Rattle.om_state.specs.declared.control.Edit.TheVariants.{BeginFrame, EndFrame, EndContext}
use Rattle.om_state.specs.declared.step.Update.{Update}
use Rattle.om_state.specs.declared.value.Ready.{Ready}
use Rattle.om_state.specs.declared.value.Task as tasks
use Rattle.om_state.specs.declared.value.Task.TheVariants as task
use Rattle.om_state.specs.declared.value.Val.{Val}
use Rattle.om_state.specs.declared.value.Val.TheVariants as value
use Rattle.om_foot.specs.declared.object.Obj.TheVariants as obj
use Rattle.om_state.specs.Edits.{edited}
use Rattle.om_state.specs.State.{State, values_read}
use Rattle.om_state.specs.Values.{cell_in, task_in, count_in}
use Rattle.om_team_serial.specs.declared.row.Launch.{Launch}
use Rattle.om_team_serial.specs.Rows.{first_of, rest_of}
use Rattle.om_team_serial.specs.Objects.{own_cells, deaths, puts, homes_in, innermost}
use Rattle.om_team_serial.specs.SerialRows.{put_of, row_of, unsets, cells_of_slot, touch_row, serial_row, slots_in, call_row}
use Rattle.om_team_serial.specs.SerialRows.{return_row, put_combined, reduced, reduce_row}
use Rattle.om_team_worksharing.specs.Barriers.{is_open}
use Rattle.om_team_serial.specs.Begins.{first_frame}
use Rattle.om_team.specs.Teams.{first_busy, member, member_controls, member_puts, size_of}
use Rattle.om_team.specs.Rows.{forked, team_of, named_row, sized_row, fork_row, begin_row}
use Rattle.om_team_worksharing.specs.Rows.{is_misplaced_barrier, arrive_row, kept, departed, depart_row, left, leave_row}
use Rattle.om_task.specs.declared.task_start.Starting.{Starting}
use Rattle.om_task.specs.declared.task.Making.{Making}
use Rattle.om_team_serial.specs.Rows.{is_zero}
use Rattle.om_task.specs.Tasks.{born, group_of, innermost_group, ready_of}
use Rattle.om_task.specs.Rows.{made_row, given_row, spawn_row, ended_row, end_row_of, task_end_row, wait_begin_row}
use Rattle.om_task.specs.Rows.{waited, wait_end_row, opened_row, group_begin_row, closed, closed_row, group_end_row}
use Rattle.om_team_serial.specs.Ends.{value_of, finished, finished_row, finish_row}
use Rattle.om_task.specs.Rows.{ready_for, started, started_row}
use Rattle.om_task.specs.Rows.{start_row}
use Rattle.om_soundness.specs.Standing.{Owned, IsStandingFrame, IsStandingContext, IsStandingControl, IsStandingTask}
use Rattle.om_soundness.specs.Standing.{IsStandingValue, IsStanding, IsMember, HasParent, IsNotReady}
use Rattle.om_soundness.proofs.Bounds.{AllPutStanding, RowStands, RowMakes, AskedStands, Leads, changed_stands}
use Rattle.om_soundness.proofs.Bounds.{StandsAnywhere, if_asked}
use Rattle.om_soundness.proofs.Updates.{append, put_unsets, put_deaths, keeps, sums}

-- ---- what is put

put_stands : (program : Raw) (owned : Owned) (o : Option ℤ) (us : List Update) → AllPutStanding program owned us
    → AllPutStanding program owned (put_of o ++ us)
put_stands program owned None us h = h
put_stands program owned (Some x) us h = (tt, h)

puts_stand : (program : Raw) (owned : Owned) (ns : List ℤ) → AllPutStanding program owned (puts ns)
puts_stand program owned [] = tt
puts_stand program owned (x ∷ ns) = (tt, puts_stand program owned ns)

-- a name that a number ends has a number
last_named : (xs : List ℕ) (x : ℕ) → HasParent (xs ++ x ∷ [])
last_named [] x e = cc
last_named (y ∷ xs) x e = cc

named_if : (b : Bool) (xs x : List ℕ) → HasParent xs → cond b (Some xs) None ≡ Some x → HasParent x
named_if true xs x h e = let same : xs ≡ x = cc in subst HasParent same h
named_if false xs x h e = cc

born_named : (c : Context) (x : List ℕ) → born c ≡ Some x → HasParent x
born_named c x e = named_if (nat_le (length (c.task ++ (c.births + 1) ∷ [])) 64) (c.task ++ (c.births + 1) ∷ []) x
    (last_named c.task (c.births + 1)) e

member_stands : (program : Raw) (owned : Owned) (team : Team) (frame : Frame) → IsMember team
    → IsStandingFrame program owned frame → IsStandingContext program owned (member team frame)
member_stands program owned team frame m h =
    record { frame = h; callers = tt; member = m; named = last_named team.name team.number }

controls_stand : (program : Raw) (owned : Owned) (team : Team) (frame : Frame) (number count : ℕ)
    → number + count ≤ team.size → IsStandingFrame program owned frame
    → AllPutStanding program owned (member_controls team frame number count)
controls_stand program owned team frame number zero m h = tt
controls_stand program owned team frame number (suc count) m h = (
  (member_stands program owned (record team { number = number }) frame (omega (arith, m)) h, tt),
  controls_stand program owned team frame (number + 1) count (omega (arith, m)) h,
)

min_some : (a b : ℕ) → 1 ≤ a → 1 ≤ b → 1 ≤ min a b
min_some zero b h k = omega (arith, h)
min_some (suc a) zero h k = omega (arith, k)
min_some (suc a) (suc b) h k = omega arith

-- a team that is made has a member at least
size_some : (workers level : ℕ) (asked : Option ℕ) → 1 ≤ workers → IfSome asked (λ n. 1 ≤ n)
    → 1 ≤ size_of workers level asked
size_some workers zero None some h = some
size_some workers zero (Some n) some h = min_some n workers h some
size_some workers (suc level) asked some h = omega arith

values_stand : (program : Raw) (owned : Owned) (ns : List ℤ) (count : ℕ)
    → AllPutStanding program owned (member_puts ns count)
values_stand program owned ns zero = tt
values_stand program owned ns (suc count) =
    append (StandsAnywhere program owned) (puts ns) (member_puts ns count) (puts_stand program owned ns)
    (values_stand program owned ns count)

-- ---- rows

module _ (program : Raw) (owned : Owned) (stack : Stack) where
  -- a turn of the frame machine, where each jump that it makes leads to a stack that stands
  abbrev pub TurnLeads : ℕ → Turn → Type 0
  TurnLeads to (turn.Goes jump takes pushed put) = Leads program owned stack (unwrap_or jump to) takes pushed
  TurnLeads to _ = Unit {0}

  turn_stands : (to : ℕ) (us : List Update) (t : Turn) → TurnLeads to t → AllPutStanding program owned us
      → RowStands program owned stack (row_of to us t)
  turn_stands to us (turn.Goes jump takes pushed put) h p = (h, put_stands program owned put us p)
  turn_stands to us (turn.Faults f) h p = tt
  turn_stands to us turn.Lacks h p = tt
  turn_stands to us (turn.Returns v) h p = tt
  turn_stands to us (turn.Finishes v) h p = tt

  touch_stands : (c : Context) (t : cells.Cell → Turn) (x : Touch) (values : List Val)
      → ((y : cells.Cell) → TurnLeads (c.frame.next + 1) (t y))
      → AskedStands program owned stack (touch_row program c t x) values
  touch_stands c t touch.Nothing values h = turn_stands (c.frame.next + 1) [] (t cell.Unset) (h cell.Unset) tt
  touch_stands c t (touch.Reads p index) values h =
      turn_stands (c.frame.next + 1) [] (t (cell_in (first_of values))) (h (cell_in (first_of values))) tt
  touch_stands c t (touch.Writes p index) values h =
      turn_stands (c.frame.next + 1) [] (t (cell_in (first_of values))) (h (cell_in (first_of values))) tt
  touch_stands c t (touch.Clears slot) values h =
      turn_stands (c.frame.next + 1) (unsets (cells_of_slot program c slot)) (t cell.Unset) (h cell.Unset)
      (put_unsets (StandsAnywhere program owned) (cells_of_slot program c slot) tt)
  touch_stands c t (touch.Prints text count) values h =
      turn_stands (c.frame.next + 1) _ (t cell.Unset) (h cell.Unset) (tt, tt)

  pub serial_stands : (c : Context) (instr : Serial) (values : List Val)
      → ((y : cells.Cell) → TurnLeads (c.frame.next + 1)
      ((act program (slots_in program c) instr c.frame.operands).turn y))
      → AskedStands program owned stack (serial_row program c instr) values
  serial_stands c instr values h =
      touch_stands c (act program (slots_in program c) instr c.frame.operands).turn
      (act program (slots_in program c) instr c.frame.operands).touch values h

  pub call_stands : (launch : Launch) (body : Body) (c : Context) (ints : Option (List ℤ)) (values : List Val)
      → IsStandingControl program owned
      (edited (BeginFrame launch.to launch.takes launch.body (homes_in c body.slots)) stack)
      → AskedStands program owned stack (call_row launch body c ints) values
  call_stands launch body c None values h = tt
  call_stands launch body c (Some ns) values h =
      if_asked program owned stack (nat_le 999 (length c.callers)) _ _ values tt (h, puts_stand program owned ns)

  pub return_stands : (c : Context) (slots : List Slot) (callers : List Frame) (v : Option Operand)
      (values : List Val) → IsStandingControl program owned (Running stack)
      → AskedStands program owned stack (return_row c slots callers v) values
  return_stands c slots callers None values h = tt
  return_stands c slots [] (Some v) values h = tt
  return_stands c slots (f ∷ callers) (Some v) values h = (
    changed_stands program owned (EndFrame v ∷ []) (Running stack) (tt, tt) h,
    put_deaths (StandsAnywhere program owned) (own_cells c slots) tt,
  )

  put_combined_stands : (to : ℕ) (r : Result ℤ Fault) → Leads program owned stack to 0 None
      → RowStands program owned stack (put_combined to r)
  put_combined_stands to (Ok x) h = (h, (tt, (tt, tt)))
  put_combined_stands to (Err f) h = tt

  reduced_stands : (to : ℕ) (r : Reduction) (copy original : cells.Cell) → Leads program owned stack to 0 None
      → RowStands program owned stack (reduced to r copy original)
  reduced_stands to r cell.Dead original h = tt
  reduced_stands to r cell.Unset cell.Dead h = tt
  reduced_stands to r cell.Unset cell.Unset h = tt
  reduced_stands to r cell.Unset (cell.Int x) h = tt
  reduced_stands to r (cell.Int copy) cell.Dead h = tt
  reduced_stands to r (cell.Int copy) cell.Unset h = tt
  reduced_stands to r (cell.Int copy) (cell.Int original) h = put_combined_stands to (combine r original copy) h

  pub reduce_stands : (c : Context) (r : Reduction) (copy : ℕ) (p : Place) (values : List Val)
      → Leads program owned stack (c.frame.next + 1) 0 None
      → AskedStands program owned stack (reduce_row c r copy p) values
  reduce_stands c r copy p values h =
      reduced_stands (c.frame.next + 1) r (cell_in (first_of values)) (cell_in (first_of (rest_of values))) h

  forked_stands : (launch : Launch) (name : List ℕ) (team : Team) (frame : Frame) (ns : List ℤ) (busy : Option ℕ)
      → IsMember team → Leads program owned stack launch.to launch.takes None → IsStandingFrame program owned frame
      → RowStands program owned stack (forked launch name team frame ns busy)
  forked_stands launch name team frame ns (Some worker) m h f = tt
  forked_stands launch name team frame ns None m h f = (
    (member_stands program owned team frame m f, (record { frame = h.0.frame; callers = h.0.callers; member = h.0.member; named = h.0.named }, h.1)),
    (append (StandsAnywhere program owned) (member_controls team frame 1 (team.size - 1)) _
        (controls_stand program owned team frame 1 (team.size - 1) (omega (arith, m)) f)
        (append (StandsAnywhere program owned) (member_puts ns team.size) _ (values_stand program owned ns team.size) (tt, tt))),
  )

  named_stands : (worker workers : ℕ) (launch : Launch) (body : Body) (c : Context) (asked : Option ℕ) (ns : List ℤ)
      (values : List Val) → 1 ≤ workers → IfSome asked (λ n. 1 ≤ n)
      → Leads program owned stack launch.to launch.takes None
      → IsStandingFrame program owned (first_frame launch.body (homes_in c body.slots))
      → AskedStands program owned stack (named_row worker workers launch body c asked ns) values
  named_stands worker workers launch body c asked ns values some k h f =
      if_asked program owned stack (nat_lt 62 (length c.task)) _ _ values tt
      (forked_stands launch c.task (team_of workers c asked) (first_frame launch.body (homes_in c body.slots)) ns
      (first_busy 1 ((team_of workers c asked).size - 1) values)
      (size_some workers c.team.level asked some k) h f)

  sized_stands : (worker workers : ℕ) (launch : Launch) (body : Body) (c : Context) (size : Option ℤ) (ns : List ℤ)
      (values : List Val) → 1 ≤ workers → Leads program owned stack launch.to launch.takes None
      → IsStandingFrame program owned (first_frame launch.body (homes_in c body.slots))
      → AskedStands program owned stack (sized_row worker workers launch body c size ns) values
  sized_stands worker workers launch body c None ns values some h f = tt
  sized_stands worker workers launch body c (Some (pos zero)) ns values some h f = tt
  sized_stands worker workers launch body c (Some (pos (suc k))) ns values some h f =
      named_stands worker workers launch body c (Some (suc k)) ns values some (omega arith) h f
  sized_stands worker workers launch body c (Some (negsuc k)) ns values some h f = tt

  pub fork_stands : (worker workers : ℕ) (launch : Launch) (body : Body) (c : Context) (sized : Bool)
      (size : Option ℤ) (ints : Option (List ℤ)) (values : List Val) → 1 ≤ workers
      → Leads program owned stack launch.to launch.takes None
      → IsStandingFrame program owned (first_frame launch.body (homes_in c body.slots))
      → AskedStands program owned stack (fork_row worker workers launch body c sized size ints) values
  fork_stands worker workers launch body c sized size None values some h f = tt
  fork_stands worker workers launch body c false size (Some ns) values some h f =
      named_stands worker workers launch body c None ns values some tt h f
  fork_stands worker workers launch body c true size (Some ns) values some h f =
      sized_stands worker workers launch body c size ns values some h f

  pub begin_stands : (worker to : ℕ) (c : Context) (values : List Val) → Leads program owned stack to 0 None
      → AskedStands program owned stack (begin_row worker to c) values
  begin_stands worker to c values h = (h, (tt, tt))

  pub arrive_stands : (worker to : ℕ) (b : Barrier) (c : Context) (values : List Val)
      → Leads program owned stack to 0 None → AskedStands program owned stack (arrive_row worker to b c) values
  arrive_stands worker to b c values h =
      if_asked program owned stack (is_misplaced_barrier b c) _ _ values tt (h, (tt, (tt, tt)))

  departed_stands : (to : ℕ) (b : Barrier) (c : Context) (opens : Bool) → Leads program owned stack to 0 None
      → RowStands program owned stack (departed to b c opens)
  departed_stands to b c false h = tt
  departed_stands to b c true h = (
    (record { frame = h.0.frame; callers = h.0.callers; member = h.0.member; named = h.0.named }, h.1),
    (append (StandsAnywhere program owned) (kept c.team.size) _ (keeps (StandsAnywhere program owned) (c.team.size + 1)) (tt, tt)),
  )

  pub depart_stands : (worker to : ℕ) (b : Barrier) (c : Context) (values : List Val)
      → Leads program owned stack to 0 None → AskedStands program owned stack (depart_row worker to b c) values
  depart_stands worker to b c values h = departed_stands to b c (is_open c.phase c.team.size values) h

  left_stands : (c : Context) (below : List Context) (own : List Access) (opens : Bool)
      → IsStandingControl program owned (Running stack) → RowStands program owned stack (left c below own opens)
  left_stands c below own false h = tt
  left_stands c below own true h = (
    changed_stands program owned (EndContext ∷ []) (Running stack) (tt, tt) h,
    append (StandsAnywhere program owned)
        (kept c.team.size) _ (keeps (StandsAnywhere program owned) (c.team.size + 1))
        (append (StandsAnywhere program owned) (deaths own) _ (put_deaths (StandsAnywhere program owned) own tt) (tt, tt)),
  )

  pub leave_stands : (worker : ℕ) (c : Context) (below : List Context) (slots : List Slot) (k : Kind) (number : ℕ)
      (values : List Val) → IsStandingControl program owned (Running stack)
      → AskedStands program owned stack (leave_row worker c below slots k number) values
  leave_stands worker c below slots kind.Initial number values h = tt
  leave_stands worker c below slots kind.Explicit number values h = tt
  leave_stands worker c [] slots kind.Implicit zero values h = tt
  leave_stands worker c [] slots kind.Implicit (suc k) values h =
      left_stands c [] (own_cells c slots) (is_open c.phase c.team.size values) h
  leave_stands worker c (b ∷ below) slots kind.Implicit zero values h =
      left_stands c (b ∷ below) (own_cells c slots) (is_open c.phase c.team.size values) h
  leave_stands worker c (b ∷ below) slots kind.Implicit (suc k) values h =
      left_stands c (b ∷ below) (own_cells c slots) (is_open c.phase c.team.size values) h

  made_stands : (m : Making) (body : Body) (c : Context) (ns : List ℤ) (new : Option (List ℕ)) (values : List Val)
      → ((x : List ℕ) → new ≡ Some x → HasParent x) → Leads program owned stack m.launch.to m.launch.takes None
      → IsStandingTask program owned (task.Ready (ready_of m body c))
      → RowMakes program owned (Running stack) (made_row m body c ns new).names ((made_row m body c ns new).row values)
  made_stands m body c ns None values n h t = tt
  made_stands m body c ns (Some new) values n h t = record {
    name = new;
    rest = _;
    task = task.Ready (ready_of m body c);
    others = _;
    first = refl;
    puts = refl;
    named = n new refl;
    stands = t;
    control = (record { frame = h.0.frame; callers = h.0.callers; member = h.0.member; named = h.0.named }, h.1);
    besides = append (StandsAnywhere program owned) (puts ns) _ (puts_stand program owned ns)
        (sums (StandsAnywhere program owned) (pos 1) (group_of c) _ (tt, tt));
  }

  given_ints_stand : (m : Making) (body : Body) (c : Context) (ints : Option (List ℤ)) (values : List Val)
      → Leads program owned stack m.launch.to m.launch.takes None
      → IsStandingTask program owned (task.Ready (ready_of m body c))
      → RowMakes program owned (Running stack) (given_row m body c ints).names ((given_row m body c ints).row values)
  given_ints_stand m body c None values h t = tt
  given_ints_stand m body c (Some ns) values h t = made_stands m body c ns (born c) values (born_named c) h t

  pub spawn_stands : (m : Making) (body : Body) (c : Context) (values : List Val)
      → Leads program owned stack m.launch.to m.launch.takes None
      → IsStandingTask program owned (task.Ready (ready_of m body c))
      → RowMakes program owned (Running stack) (spawn_row m body c).names ((spawn_row m body c).row values)
  spawn_stands m body c values h t = given_ints_stand m body c (ints_on m.launch.takes c.frame.operands) values h t

  ended_stands : (worker : ℕ) (c : Context) (below : List Context) (own : List Access) (values : List Val)
      → IsStandingControl program owned (Running stack)
      → AskedStands program owned stack (ended_row worker c below own) values
  ended_stands worker c [] own values h = tt
  ended_stands worker c (b ∷ below) own values h = (
    changed_stands program owned (EndContext ∷ []) (Running stack) (tt, tt) h,
    (
      tt,
      append (StandsAnywhere program owned) (deaths own) _ (put_deaths (StandsAnywhere program owned) own tt)
          (sums (StandsAnywhere program owned) (negsuc 0) c.group _ (tt, tt)),
    ),
  )

  end_stands : (worker : ℕ) (s : Stack) (slots : List Slot) (k : Kind) (values : List Val)
      → IsStandingControl program owned (Running stack)
      → AskedStands program owned stack (end_row_of worker s slots k) values
  end_stands worker s slots kind.Initial values h = tt
  end_stands worker s slots kind.Implicit values h = tt
  end_stands worker s slots kind.Explicit values h =
      ended_stands worker s.top s.below (own_cells s.top slots) values h

  pub task_end_stands : (worker : ℕ) (s : Stack) (slots : List Slot) (values : List Val)
      → IsStandingControl program owned (Running stack)
      → AskedStands program owned stack (task_end_row worker s slots) values
  task_end_stands worker s slots values h = end_stands worker s slots s.top.kind values h

  pub wait_begin_stands : (worker to : ℕ) (c : Context) (values : List Val) → Leads program owned stack to 0 None
      → AskedStands program owned stack (wait_begin_row worker to c) values
  wait_begin_stands worker to c values h = (h, (tt, tt))

  waited_stands : (to : ℕ) (c : Context) (over : Bool) → Leads program owned stack to 0 None
      → RowStands program owned stack (waited to c over)
  waited_stands to c true h = (h, (tt, (tt, tt)))
  waited_stands to c false h = tt

  pub wait_end_stands : (worker to : ℕ) (c : Context) (values : List Val) → Leads program owned stack to 0 None
      → AskedStands program owned stack (wait_end_row worker to c) values
  wait_end_stands worker to c values h = waited_stands to c (is_zero (count_in (first_of values))) h

  opened_stands : (worker to : ℕ) (c : Context) (group : Option (List ℕ)) (values : List Val)
      → Leads program owned stack to 0 None → AskedStands program owned stack (opened_row worker to c group) values
  opened_stands worker to c None values h = tt
  opened_stands worker to c (Some group) values h =
      ((record { frame = h.0.frame; callers = h.0.callers; member = h.0.member; named = h.0.named }, h.1), (tt, tt))

  pub group_begin_stands : (worker to : ℕ) (c : Context) (values : List Val) → Leads program owned stack to 0 None
      → AskedStands program owned stack (group_begin_row worker to c) values
  group_begin_stands worker to c values h = opened_stands worker to c (born c) values h

  closed_stands : (to : ℕ) (c : Context) (over : Bool) → Leads program owned stack to 0 None
      → RowStands program owned stack (closed to c over)
  closed_stands to c true h = ((record { frame = h.0.frame; callers = h.0.callers; member = h.0.member; named = h.0.named }, h.1), (tt, (tt, tt)))
  closed_stands to c false h = tt

  closed_row_stands : (worker to : ℕ) (c : Context) (group : Option (List ℕ)) (values : List Val)
      → Leads program owned stack to 0 None → AskedStands program owned stack (closed_row worker to c group) values
  closed_row_stands worker to c None values h = tt
  closed_row_stands worker to c (Some group) values h = closed_stands to c (is_zero (count_in (first_of values))) h

  pub group_end_stands : (worker to : ℕ) (c : Context) (values : List Val) → Leads program owned stack to 0 None
      → AskedStands program owned stack (group_end_row worker to c) values
  group_end_stands worker to c values h =
      closed_row_stands worker to c (innermost_group (innermost c.constructs)) values h

  finished_stands : (c : Context) (x : ℤ) (over : Bool) → RowStands program owned stack (finished c x over)
  finished_stands c x true = (tt, (tt, (tt, tt)))
  finished_stands c x false = tt

  finished_row_stands : (worker : ℕ) (c : Context) (k : Kind) (v : Option ℤ) (values : List Val)
      → AskedStands program owned stack (finished_row worker c k v) values
  finished_row_stands worker c kind.Implicit v values = tt
  finished_row_stands worker c kind.Explicit v values = tt
  finished_row_stands worker c kind.Initial None values = tt
  finished_row_stands worker c kind.Initial (Some x) values =
      finished_stands c x (is_zero (count_in (first_of values)))

  pub finish_stands : (worker : ℕ) (c : Context) (has_value : Bool) (values : List Val)
      → AskedStands program owned stack (finish_row worker c has_value) values
  finish_stands worker c has_value values = finished_row_stands worker c c.kind (value_of c has_value) values

  -- ---- a task that is started stands as it stood while it was ready

  started_stands : (worker : ℕ) (name : List ℕ) (c : Context) (s : statuses.TaskStatus) (r : Option Ready)
      → ((x : Ready) → r ≡ Some x → IsStandingTask program owned (task.Ready x))
      → ((x : Ready) → r ≡ Some x → HasParent name) → IsMember c.team
      → IsStandingControl program owned (Running stack) → RowStands program owned stack (started worker name c s r)
  started_stands worker name c s None t n m h = tt
  started_stands worker name c s (Some ready) t n m h =
      ((record { frame = t ready refl; callers = tt; member = m; named = n ready refl }, h), (tt, (tt, tt)))

ready_if : (program : Raw) (owned : Owned) (b : Bool) (r x : Ready) → IsStandingTask program owned (task.Ready r)
    → (if b then Some r else None) ≡ Some x → IsStandingTask program owned (task.Ready x)
ready_if program owned true r x h e =
    let same : r ≡ x = cc in subst (λ (y : Ready). IsStandingTask program owned (task.Ready y)) same h
ready_if program owned false r x h e = cc

ready_stands : (program : Raw) (owned : Owned) (team : List ℕ) (t : tasks.Task) (x : Ready)
    → IsStandingTask program owned t → ready_for team t ≡ Some x → IsStandingTask program owned (task.Ready x)
ready_stands program owned team (task.Ready r) x h e = ready_if program owned (pointwise nat_eq r.team team) r x h e
ready_stands program owned team task.Absent x h e = cc
ready_stands program owned team (task.Running w) x h e = cc
ready_stands program owned team task.Done x h e = cc

task_read : (program : Raw) (owned : Owned) (v : Val) → IsStandingValue program owned v
    → IsStandingTask program owned (task_in v)
task_read program owned (value.Task t) h = h
task_read program owned (value.Control c) h = tt
task_read program owned (value.Cell c) h = tt
task_read program owned (value.Count k) h = tt
task_read program owned (value.Number k) h = tt
task_read program owned (value.Lock k) h = tt
task_read program owned (value.Output k) h = tt
task_read program owned (value.Events k) h = tt

-- a task that is ready has a name with a number
none_ready : (team : List ℕ) (t : tasks.Task) (x : Ready) → IsNotReady t → ready_for team t ≡ Some x → ⊥
none_ready team (task.Ready r) x h e = h
none_ready team task.Absent x h e = cc
none_ready team (task.Running w) x h e = cc
none_ready team task.Done x h e = cc

ready_named : (s : State) (team name : List ℕ) (x : Ready) → IsNotReady (task_in (s (obj.Task [])))
    → ready_for team (task_in (s (obj.Task name))) ≡ Some x → HasParent name
ready_named s team [] x h e = absurd (none_ready team (task_in (s (obj.Task []))) x h e)
ready_named s team (k ∷ name) x h e = λ same. cc

started_row_stands : (program : Raw) (owned : Owned) (stack : Stack) (worker : ℕ) (name : List ℕ) (c : Context)
    (admits : Bool) (status : Option statuses.TaskStatus) (s : State) → IsStanding program owned s → IsMember c.team
    → IsStandingControl program owned (Running stack)
    → AskedStands program owned stack (started_row worker name c admits status)
    (values_read (started_row worker name c admits status).names s)
started_row_stands program owned stack worker name c admits None s t m h = tt
started_row_stands program owned stack worker name c false (Some status) s t m h = tt
started_row_stands program owned stack worker name c true (Some status) s t m h =
    started_stands program owned stack worker name c status (ready_for c.team.name (task_in (s (obj.Task name))))
    (λ x e. ready_stands program owned c.team.name (task_in (s (obj.Task name))) x
    (task_read program owned (s (obj.Task name)) (t.values (obj.Task name))) e)
    (λ x e. ready_named s c.team.name name x t.root e) m h

pub start_stands : (program : Raw) (owned : Owned) (stack : Stack) (starting : Starting) (name : List ℕ) (c : Context)
    (s : State) → IsStanding program owned s → IsMember c.team → IsStandingControl program owned (Running stack)
    → AskedStands program owned stack (start_row starting name c) (values_read (start_row starting name c).names s)
start_stands program owned stack starting name c s t m h =
    started_row_stands program owned stack starting.worker name c starting.admits starting.status s t m h
