-- The rows of calls, parallel regions, barriers and tasks push and put ints alone.
use Rattle.std.proofs.Common.{◌≡◌, ℕ, zero, suc, ◌+◌, ◌-◌, ◌≤◌, ℤ, pos, negsuc, Bool, true, false, arith, refl}
use Rattle.std.proofs.Common.{List, [], ◌∷◌, Option, None, Some, length}
use Rattle.std.specs.Prelude.{All, IfSome, Result, Ok, Err, min, nat_lt, nat_le}
use Rattle.std.proofs.Math.Nat.{min-le_right}
use Rattle.std.proofs.lemmas.List.Elements.{All-nil, All-head, All-tail}
use Rattle.om_foot.specs.declared.footprint.Access.{Access}
use Rattle.om_code.specs.declared.frame.Cell as cells
use Rattle.om_code.specs.declared.frame.Cell.TheVariants as cell
use Rattle.om_code.specs.declared.frame.Fault.{Fault}
use Rattle.om_code.specs.declared.frame.Operand.{Operand}
use Rattle.om_code.specs.declared.instruction.Barrier.{Barrier}
use Rattle.om_code.specs.declared.instruction.Place.{Place}
use Rattle.om_code.specs.declared.instruction.Reduction.{Reduction}
use Rattle.om_code.specs.declared.raw.Body.{Body}
use Rattle.om_code.specs.declared.raw.Slot.{Slot}
use Rattle.om_code.specs.Arithmetic.{combine}
use Rattle.om_code.specs.Printing.{ints_on}
use Rattle.om_events.specs.declared.kind.TaskStatus as statuses
use Rattle.om_state.specs.declared.control.Context.{Context}
use Rattle.om_state.specs.declared.control.Frame.{Frame}
use Rattle.om_state.specs.declared.control.Kind.{Kind}
use Rattle.om_state.specs.declared.control.Kind.TheVariants as kind
use Rattle.om_state.specs.declared.control.Stack.{Stack}
use Rattle.om_state.specs.declared.control.Team.{Team}
use Rattle.om_state.specs.declared.value.Ready.{Ready}
use Rattle.om_state.specs.declared.value.Val.{Val}
use Rattle.om_state.specs.Values.{cell_in, count_in, task_in}
use Rattle.om_team_serial.specs.declared.row.Launch.{Launch}
use Rattle.om_team_serial.specs.Begins.{first_frame}
use Rattle.om_team_serial.specs.Objects.{own_cells, deaths, puts, homes_in, innermost}
use Rattle.om_team_serial.specs.Rows.{first_of, rest_of, is_zero}
use Rattle.om_team_serial.specs.SerialRows.{call_row, return_row, put_combined, reduced, reduce_row}
use Rattle.om_team_worksharing.specs.Barriers.{is_open}
use Rattle.om_team.specs.Teams.{first_busy, member, member_controls, member_puts, size_of}
use Rattle.om_team.specs.Rows.{forked, team_of, named_row, sized_row, fork_row}
use Rattle.om_team_serial.specs.Ends.{value_of, finished, finished_row, finish_row}
use Rattle.om_team_worksharing.specs.Rows.{is_misplaced_barrier, arrive_row, kept, departed, depart_row, left, leave_row}
use Rattle.om_task.specs.declared.task_start.Starting.{Starting}
use Rattle.om_task.specs.declared.task.Making.{Making}
use Rattle.om_task.specs.Tasks.{born, group_of, innermost_group}
use Rattle.om_task.specs.Rows.{made_row, given_row as values_row, spawn_row, ended_row, end_row_of, task_end_row}
use Rattle.om_task.specs.Rows.{waited, wait_end_row, opened_row, group_begin_row, closed, closed_row, group_end_row}
use Rattle.om_task.specs.Rows.{ready_for, started, started_row, start_row}
use Rattle.om_soundness.specs.Ints.{IsInt, AreFew, IsIntOperand, HoldsInt, FrameHasInts, ConstructHasInts}
use Rattle.om_soundness.specs.Ints.{IsSmall, ContextHasInts, ValueHasInts}
use Rattle.om_soundness.proofs.IntEdits.{UpdatesHaveInts, RowHasInts, AskedHasInts, if_asked}
use Rattle.om_soundness.proofs.Updates.{append, put_deaths, keeps, sums}
use Rattle.om_soundness.proofs.IntTurns.{first_int, rest_ints}
use Rattle.om_soundness.proofs.IntValues.{IsIntResult, combine_int, on_ints}

-- ---- what is put

puts_ints : (ns : List ℤ) → All IsInt ns → UpdatesHaveInts (puts ns)
puts_ints [] h = tt
puts_ints (n ∷ ns) h = (All-head IsInt n ns h, puts_ints ns (All-tail IsInt n ns h))

member_ints : (team : Team) (frame : Frame) → IsSmall team → FrameHasInts frame → ContextHasInts (member team frame)
member_ints team frame m h = (h, All-nil FrameHasInts, All-nil ConstructHasInts, m)

controls_ints : (team : Team) (frame : Frame) (number count : ℕ) → AreFew team.size
    → number + count ≤ team.size + 1 → FrameHasInts frame → UpdatesHaveInts (member_controls team frame number count)
controls_ints team frame number zero few m h = tt
controls_ints team frame number (suc count) few m h = (
  (
    member_ints (record team { number = number }) frame (record { number = omega (arith, m); size = few }) h,
    All-nil ContextHasInts,
  ),
  controls_ints team frame (number + 1) count few (omega (arith, m)) h,
)

member_puts_ints : (ns : List ℤ) (count : ℕ) → All IsInt ns → UpdatesHaveInts (member_puts ns count)
member_puts_ints ns zero h = tt
member_puts_ints ns (suc count) h =
    append ValueHasInts (puts ns) (member_puts ns count) (puts_ints ns h) (member_puts_ints ns count h)

size_few : (workers level : ℕ) (asked : Option ℕ) → AreFew workers → AreFew (size_of workers level asked)
size_few workers zero None few = few
size_few workers zero (Some n) few = let le : min n workers ≤ workers = min-le_right n workers in omega (arith, few, le)
size_few workers (suc level) asked few = omega arith

-- ---- calls, returns and reductions

pub call_ints : (launch : Launch) (body : Body) (c : Context) (ints : Option (List ℤ)) (values : List Val)
    → IfSome ints (λ ns. All IsInt ns) → AskedHasInts (call_row launch body c ints) values
call_ints launch body c None values h = tt
call_ints launch body c (Some ns) values h =
    if_asked (nat_le 999 (length c.callers)) _ _ values (λ e. tt) ((tt, tt), puts_ints ns h)

pub return_ints : (c : Context) (slots : List Slot) (callers : List Frame) (v : Option Operand) (values : List Val)
    → IfSome v IsIntOperand → AskedHasInts (return_row c slots callers v) values
return_ints c slots callers None values h = tt
return_ints c slots [] (Some v) values h = tt
return_ints c slots (f ∷ callers) (Some v) values h = ((h, tt), put_deaths ValueHasInts (own_cells c slots) tt)

put_combined_ints : (to : ℕ) (r : Result ℤ Fault) → IsIntResult r → RowHasInts (put_combined to r)
put_combined_ints to (Ok v) h = ((tt, tt), (tt, (h, tt)))
put_combined_ints to (Err f) h = tt

reduced_ints : (to : ℕ) (r : Reduction) (copy original : cells.Cell) → HoldsInt copy → HoldsInt original
    → RowHasInts (reduced to r copy original)
reduced_ints to r cell.Dead original h k = tt
reduced_ints to r cell.Unset cell.Dead h k = tt
reduced_ints to r cell.Unset cell.Unset h k = tt
reduced_ints to r cell.Unset (cell.Int v) h k = tt
reduced_ints to r (cell.Int copy) cell.Dead h k = tt
reduced_ints to r (cell.Int copy) cell.Unset h k = tt
reduced_ints to r (cell.Int copy) (cell.Int original) h k =
    put_combined_ints to (combine r original copy) (combine_int r original copy k h)

pub reduce_ints : (c : Context) (r : Reduction) (copy : ℕ) (p : Place) (values : List Val) → All ValueHasInts values
    → AskedHasInts (reduce_row c r copy p) values
reduce_ints c r copy p values v =
    reduced_ints (c.frame.next + 1) r (cell_in (first_of values)) (cell_in (first_of (rest_of values)))
    (first_int values v) (first_int (rest_of values) (rest_ints values v))

-- ---- parallel regions and barriers

forked_ints : (launch : Launch) (name : List ℕ) (team : Team) (frame : Frame) (ns : List ℤ) (busy : Option ℕ)
    → team.number ≡ 0 → AreFew team.size → FrameHasInts frame → All IsInt ns
    → RowHasInts (forked launch name team frame ns busy)
forked_ints launch name team frame ns (Some worker) z few f h = tt
forked_ints launch name team frame ns None z few f h = (
  (tt, (tt, (member_ints team frame (record { number = omega (arith, z); size = few }) f, tt))),
  append ValueHasInts (member_controls team frame 1 (team.size - 1)) _
      (controls_ints team frame 1 (team.size - 1) few (omega arith) f)
      (append ValueHasInts (member_puts ns team.size) _ (member_puts_ints ns team.size h) (tt, tt)),
)

named_ints : (worker workers : ℕ) (launch : Launch) (body : Body) (c : Context) (asked : Option ℕ) (ns : List ℤ)
    (values : List Val) → AreFew workers → All IsInt ns
    → AskedHasInts (named_row worker workers launch body c asked ns) values
named_ints worker workers launch body c asked ns values few h =
    if_asked (nat_lt 62 (length c.task)) _ _ values (λ e. tt)
    (forked_ints launch c.task (team_of workers c asked) (first_frame launch.body (homes_in c body.slots)) ns
    (first_busy 1 ((team_of workers c asked).size - 1) values) refl (size_few workers c.team.level asked few)
    (All-nil IsIntOperand) h)

sized_ints : (worker workers : ℕ) (launch : Launch) (body : Body) (c : Context) (size : Option ℤ) (ns : List ℤ)
    (values : List Val) → AreFew workers → All IsInt ns
    → AskedHasInts (sized_row worker workers launch body c size ns) values
sized_ints worker workers launch body c None ns values few h = tt
sized_ints worker workers launch body c (Some (pos zero)) ns values few h = tt
sized_ints worker workers launch body c (Some (pos (suc k))) ns values few h =
    named_ints worker workers launch body c (Some (suc k)) ns values few h
sized_ints worker workers launch body c (Some (negsuc k)) ns values few h = tt

pub fork_ints : (worker workers : ℕ) (launch : Launch) (body : Body) (c : Context) (sized : Bool) (size : Option ℤ)
    (ints : Option (List ℤ)) (values : List Val) → AreFew workers → IfSome ints (λ ns. All IsInt ns)
    → AskedHasInts (fork_row worker workers launch body c sized size ints) values
fork_ints worker workers launch body c sized size None values few h = tt
fork_ints worker workers launch body c false size (Some ns) values few h =
    named_ints worker workers launch body c None ns values few h
fork_ints worker workers launch body c true size (Some ns) values few h =
    sized_ints worker workers launch body c size ns values few h

pub arrive_ints : (worker to : ℕ) (b : Barrier) (c : Context) (values : List Val)
    → AskedHasInts (arrive_row worker to b c) values
arrive_ints worker to b c values = if_asked (is_misplaced_barrier b c) _ _ values (λ e. tt) ((tt, tt), (tt, (tt, tt)))

departed_ints : (to : ℕ) (b : Barrier) (c : Context) (opens : Bool) → RowHasInts (departed to b c opens)
departed_ints to b c false = tt
departed_ints to b c true =
    ((tt, (tt, tt)), append ValueHasInts (kept c.team.size) _ (keeps ValueHasInts (c.team.size + 1)) (tt, tt))

pub depart_ints : (worker to : ℕ) (b : Barrier) (c : Context) (values : List Val)
    → AskedHasInts (depart_row worker to b c) values
depart_ints worker to b c values = departed_ints to b c (is_open c.phase c.team.size values)

left_ints : (c : Context) (below : List Context) (own : List Access) (opens : Bool)
    → RowHasInts (left c below own opens)
left_ints c below own false = tt
left_ints c below own true = (
  (tt, tt),
  append ValueHasInts (kept c.team.size) _ (keeps ValueHasInts (c.team.size + 1))
      (append ValueHasInts (deaths own) _ (put_deaths ValueHasInts own tt) (tt, tt)),
)

pub leave_ints : (worker : ℕ) (c : Context) (below : List Context) (slots : List Slot) (k : Kind) (number : ℕ)
    (values : List Val) → AskedHasInts (leave_row worker c below slots k number) values
leave_ints worker c below slots kind.Initial number values = tt
leave_ints worker c below slots kind.Explicit number values = tt
leave_ints worker c [] slots kind.Implicit zero values = tt
leave_ints worker c [] slots kind.Implicit (suc k) values =
    left_ints c [] (own_cells c slots) (is_open c.phase c.team.size values)
leave_ints worker c (b ∷ below) slots kind.Implicit zero values =
    left_ints c (b ∷ below) (own_cells c slots) (is_open c.phase c.team.size values)
leave_ints worker c (b ∷ below) slots kind.Implicit (suc k) values =
    left_ints c (b ∷ below) (own_cells c slots) (is_open c.phase c.team.size values)

finished_ints : (c : Context) (n : ℤ) (over : Bool) → RowHasInts (finished c n over)
finished_ints c n true = ((tt, tt), (tt, (tt, tt)))
finished_ints c n false = tt

finished_row_ints : (worker : ℕ) (c : Context) (k : Kind) (v : Option ℤ) (values : List Val)
    → AskedHasInts (finished_row worker c k v) values
finished_row_ints worker c kind.Implicit v values = tt
finished_row_ints worker c kind.Explicit v values = tt
finished_row_ints worker c kind.Initial None values = tt
finished_row_ints worker c kind.Initial (Some n) values = finished_ints c n (is_zero (count_in (first_of values)))

pub finish_ints : (worker : ℕ) (c : Context) (has_value : Bool) (values : List Val)
    → AskedHasInts (finish_row worker c has_value) values
finish_ints worker c has_value values = finished_row_ints worker c c.kind (value_of c has_value) values

-- ---- tasks and task groups

made_ints : (m : Making) (body : Body) (c : Context) (ns : List ℤ) (new : Option (List ℕ)) (values : List Val)
    → All IsInt ns → AskedHasInts (made_row m body c ns new) values
made_ints m body c ns None values h = tt
made_ints m body c ns (Some new) values h = (
  (tt, (tt, tt)),
  (tt, append ValueHasInts (puts ns) _ (puts_ints ns h) (sums ValueHasInts (pos 1) (group_of c) _ (tt, tt))),
)

values_ints : (m : Making) (body : Body) (c : Context) (ints : Option (List ℤ)) (values : List Val)
    → IfSome ints (λ ns. All IsInt ns) → AskedHasInts (values_row m body c ints) values
values_ints m body c None values h = tt
values_ints m body c (Some ns) values h = made_ints m body c ns (born c) values h

pub spawn_ints : (m : Making) (body : Body) (c : Context) (values : List Val) → FrameHasInts c.frame
    → AskedHasInts (spawn_row m body c) values
spawn_ints m body c values h =
    values_ints m body c (ints_on m.launch.takes c.frame.operands) values
    (on_ints m.launch.takes c.frame.operands h)

ended_ints : (worker : ℕ) (c : Context) (below : List Context) (own : List Access) (values : List Val)
    → AskedHasInts (ended_row worker c below own) values
ended_ints worker c [] own values = tt
ended_ints worker c (b ∷ below) own values = (
  (tt, tt),
  (tt, append ValueHasInts (deaths own) _ (put_deaths ValueHasInts own tt) (sums ValueHasInts (negsuc 0) c.group _ (tt, tt))),
)

end_ints : (worker : ℕ) (s : Stack) (slots : List Slot) (k : Kind) (values : List Val)
    → AskedHasInts (end_row_of worker s slots k) values
end_ints worker s slots kind.Initial values = tt
end_ints worker s slots kind.Implicit values = tt
end_ints worker s slots kind.Explicit values =
    ended_ints worker s.top s.below (own_cells s.top slots) values

pub task_end_ints : (worker : ℕ) (s : Stack) (slots : List Slot) (values : List Val)
    → AskedHasInts (task_end_row worker s slots) values
task_end_ints worker s slots values = end_ints worker s slots s.top.kind values

waited_ints : (to : ℕ) (c : Context) (over : Bool) → RowHasInts (waited to c over)
waited_ints to c true = ((tt, tt), (tt, (tt, tt)))
waited_ints to c false = tt

pub wait_end_ints : (worker to : ℕ) (c : Context) (values : List Val) → AskedHasInts (wait_end_row worker to c) values
wait_end_ints worker to c values = waited_ints to c (is_zero (count_in (first_of values)))

opened_ints : (worker to : ℕ) (c : Context) (group : Option (List ℕ)) (values : List Val)
    → AskedHasInts (opened_row worker to c group) values
opened_ints worker to c None values = tt
opened_ints worker to c (Some group) values = ((tt, (tt, (tt, tt))), (tt, tt))

pub group_begin_ints : (worker to : ℕ) (c : Context) (values : List Val)
    → AskedHasInts (group_begin_row worker to c) values
group_begin_ints worker to c values = opened_ints worker to c (born c) values

closed_ints : (to : ℕ) (c : Context) (over : Bool) → RowHasInts (closed to c over)
closed_ints to c true = ((tt, (tt, tt)), (tt, (tt, tt)))
closed_ints to c false = tt

closed_row_ints : (worker to : ℕ) (c : Context) (group : Option (List ℕ)) (values : List Val)
    → AskedHasInts (closed_row worker to c group) values
closed_row_ints worker to c None values = tt
closed_row_ints worker to c (Some group) values = closed_ints to c (is_zero (count_in (first_of values)))

pub group_end_ints : (worker to : ℕ) (c : Context) (values : List Val) → AskedHasInts (group_end_row worker to c) values
group_end_ints worker to c values = closed_row_ints worker to c (innermost_group (innermost c.constructs)) values

started_ints : (worker : ℕ) (name : List ℕ) (c : Context) (s : statuses.TaskStatus) (r : Option Ready)
    → IsSmall c.team → RowHasInts (started worker name c s r)
started_ints worker name c s None m = tt
started_ints worker name c s (Some ready) m =
    (((All-nil IsIntOperand, All-nil FrameHasInts, All-nil ConstructHasInts, m), tt), (tt, (tt, tt)))

started_row_ints : (worker : ℕ) (name : List ℕ) (c : Context) (admits : Bool) (s : Option statuses.TaskStatus)
    (values : List Val) → IsSmall c.team → AskedHasInts (started_row worker name c admits s) values
started_row_ints worker name c admits None values m = tt
started_row_ints worker name c false (Some s) values m = tt
started_row_ints worker name c true (Some s) values m =
    started_ints worker name c s (ready_for c.team.name (task_in (first_of values))) m

pub start_ints : (s : Starting) (name : List ℕ) (c : Context) (values : List Val) → IsSmall c.team
    → AskedHasInts (start_row s name c) values
start_ints s name c values m = started_row_ints s.worker name c s.admits s.status values m
