-- The rows of serial instructions, parallel regions, barriers and tasks keep to their bounds.
use Rattle.std.proofs.lemmas.Int.{ints}
use Rattle.std.proofs.Common.{subst, ◌≡◌, refl, ℕ, zero, suc, ◌+◌, ◌-◌, ◌≤◌, ℤ, pos, negsuc, Bool, true, false}
use Rattle.std.proofs.Common.{if◌then◌else◌, arith, List, [], ◌∷◌, ◌++◌, Option, None, Some, length}
use Rattle.std.specs.Prelude.{Result, Ok, Err, nat_lt, nat_le, nat_eq}
use Rattle.std.specs.Cmp.Lexicographic.{pointwise}
use Rattle.om_foot.specs.Names.{above}
use Rattle.om_foot.specs.declared.footprint.Access.{Access}
use Rattle.om_code.specs.declared.frame.Cell as cells
use Rattle.om_code.specs.declared.frame.Cell.TheVariants as cell
use Rattle.om_code.specs.declared.frame.Fault.{Fault}
use Rattle.om_code.specs.declared.frame.Fault.TheVariants as fault
use Rattle.om_code.specs.declared.frame.Operand.{Operand}
use Rattle.om_code.specs.declared.instruction.Barrier.{Barrier}
use Rattle.om_code.specs.declared.instruction.Serial.{Serial}
use Rattle.om_code.specs.declared.instruction.Place.{Place}
use Rattle.om_code.specs.declared.instruction.Reduction.{Reduction}
use Rattle.om_code.specs.declared.raw.Body.{Body}
use Rattle.om_code.specs.declared.raw.Raw.{Raw}
use Rattle.om_code.specs.declared.raw.Slot.{Slot}
use Rattle.om_code.specs.Frames.{Touch}
use Rattle.om_code.specs.Frames as touch
use Rattle.om_code.specs.declared.act.Turn.{Turn}
use Rattle.om_code.specs.declared.act.Turn.TheVariants as turn
use Rattle.om_code.specs.Arithmetic.{combine}
use Rattle.om_code.specs.Frames.{act}
use Rattle.om_code.specs.Printing.{ints_on}
use Rattle.om_events.specs.declared.kind.TaskStatus as statuses
use Rattle.om_state.specs.declared.control.Context.{Context}
use Rattle.om_state.specs.declared.control.Frame.{Frame}
use Rattle.om_state.specs.declared.control.Kind.{Kind}
use Rattle.om_state.specs.declared.control.Kind.TheVariants as kind
use Rattle.om_state.specs.declared.control.Stack.{Stack}
use Rattle.om_state.specs.declared.control.Team.{Team}
use Rattle.om_state.specs.declared.step.Update.{Update}
use Rattle.om_state.specs.declared.value.Ready.{Ready}
use Rattle.om_state.specs.declared.value.Task as tasks
use Rattle.om_state.specs.declared.value.Task.TheVariants as task
use Rattle.om_state.specs.declared.value.Val.{Val}
use Rattle.om_state.specs.declared.value.Val.TheVariants as value
use Rattle.om_state.specs.Values.{cell_in, task_in, count_in}
use Rattle.om_team_serial.specs.declared.row.Launch.{Launch}
use Rattle.om_team_serial.specs.declared.row.Row.TheVariants.{Faults}
use Rattle.om_team_serial.specs.Rows.{first_of, rest_of}
use Rattle.om_team_serial.specs.Objects.{own_cells, deaths, puts, events, given_cells, innermost}
use Rattle.om_team_serial.specs.SerialRows.{put_of, row_of, unsets, cells_of_slot, touch_row, serial_row, slots_in, number_row}
use Rattle.om_team_serial.specs.SerialRows.{call_row, return_row, put_combined, reduced, reduce_row}
use Rattle.om_team_worksharing.specs.Barriers.{barrier, is_open}
use Rattle.om_team.specs.Teams.{first_busy, member_controls, member_puts}
use Rattle.om_team.specs.Rows.{forked, team_row, team_of, named_row, sized_row, fork_row, begin_row}
use Rattle.om_team_worksharing.specs.Rows.{reached_row}
use Rattle.om_team_worksharing.specs.Rows.{is_misplaced_barrier, arrive_row, kept, departed, depart_row, left, left_row, leave_row}
use Rattle.om_task.specs.declared.task_start.Starting.{Starting}
use Rattle.om_task.specs.declared.task.Making.{Making}
use Rattle.om_team_serial.specs.Rows.{is_zero}
use Rattle.om_task.specs.Tasks.{born, group_of, innermost_group, counts, additions, task_context}
use Rattle.om_task.specs.Rows.{made_row, given_row, spawn_row, ended_row, end_row_of, task_end_row, wait_begin_row}
use Rattle.om_task.specs.Rows.{waited, wait_end_row, task_yield_row, opened_row, group_begin_row, closed, closed_row}
use Rattle.om_task.specs.Rows.{group_end_row, ready_for, started}
use Rattle.om_team_serial.specs.Ends.{value_of, finished, finished_row, finish_row}
use Rattle.om_task.specs.Rows.{started_row, start_row}
use Rattle.om_team.specs.Counters.{IsWithin, TaskWithin, ValueWithin}
use Rattle.om_task.specs.Steps.{AddOnce}
use Rattle.om_task.proofs.Bounds.{AreGentle, RowWithin, AskedWithin, ValuesWithin}
use Rattle.om_task.proofs.Gentle.{AddNone, none_append, once_append, slot_none, given_none, own_none, arrivals_none}
use Rattle.om_task.proofs.Gentle.{workers_none, members_none, gentle_append, puts_gentle, deaths_gentle, keeps_gentle}
use Rattle.om_task.proofs.Gentle.{member_within, controls_gentle, values_gentle, lacks, by_control, plain, if_asked}

put_gentle : (n : ℕ) (o : Option ℤ) (us : List Update) → AreGentle n us → AreGentle n (put_of o ++ us)
put_gentle n None us h = h
put_gentle n (Some x) us h = ((tt, tt), h)

unsets_gentle : (n : ℕ) (own : List Access) → AreGentle n (unsets own)
unsets_gentle n [] = tt
unsets_gentle n (a ∷ own) = ((tt, tt), unsets_gentle n own)

turn_within : (n to : ℕ) (us : List Update) (t : Turn) → AreGentle n us → RowWithin n (row_of to us t)
turn_within n to us (turn.Goes jump takes pushed put) h = record {
  few = omega arith;
  begun = (tt, tt);
  gentle = put_gentle n put us h;
}
turn_within n to us (turn.Faults f) h = tt
turn_within n to us turn.Lacks h = tt
turn_within n to us (turn.Returns v) h = tt
turn_within n to us (turn.Finishes v) h = tt

touch_within : (n : ℕ) (raw : Raw) (c : Context) (t : cells.Cell → Turn) (x : Touch) (values : List Val)
    → AskedWithin n (touch_row raw c t x) values
touch_within n raw c t touch.Nothing values = by_control n _ values (turn_within n (c.frame.next + 1) []
    (t cell.Unset) tt)
touch_within n raw c t (touch.Reads p index) values = plain n _ values (refl, tt)
    (turn_within n (c.frame.next + 1) [] (t (cell_in (first_of values))) tt)
touch_within n raw c t (touch.Writes p index) values = plain n _ values (refl, tt)
    (turn_within n (c.frame.next + 1) [] (t (cell_in (first_of values))) tt)
touch_within n raw c t (touch.Clears slot) values = plain n _ values (slot_none _ _ slot _ 0 _)
    (turn_within n (c.frame.next + 1) (unsets (cells_of_slot raw c slot)) (t cell.Unset)
    (unsets_gentle n (cells_of_slot raw c slot)))
touch_within n raw c t (touch.Prints text count) values = plain n _ values (refl, tt)
    (turn_within n (c.frame.next + 1) _ (t cell.Unset) (tt, tt))

pub serial_within : (n : ℕ) (raw : Raw) (c : Context) (instr : Serial) (values : List Val)
    → AskedWithin n (serial_row raw c instr) values
serial_within n raw c instr values = touch_within n raw c (act raw (slots_in raw c) instr c.frame.operands).turn
    (act raw (slots_in raw c) instr c.frame.operands).touch values

pub number_within : (n : ℕ) (c : Context) (k : ℕ) (values : List Val) → AskedWithin n (number_row c k) values
number_within n c k values = by_control n _ values (record { few = omega arith; begun = (tt, tt); gentle = tt })

pub call_within : (n : ℕ) (launch : Launch) (body : Body) (c : Context) (ints : Option (List ℤ)) (values : List Val)
    → AskedWithin n (call_row launch body c ints) values
call_within n launch body c None values = lacks n values
call_within n launch body c (Some ns) values =
    if_asked n (nat_le 999 (length c.callers)) _ _ values (by_control n (Faults fault.Frames) values tt)
    (plain n _ values (given_none c.task c.frames body.given)
    (record { few = omega arith; begun = (tt, tt); gentle = puts_gentle n ns }))

pub return_within : (n : ℕ) (c : Context) (slots : List Slot) (callers : List Frame) (v : Option Operand)
    (values : List Val) → AskedWithin n (return_row c slots callers v) values
return_within n c slots callers None values = lacks n values
return_within n c slots [] (Some v) values = lacks n values
return_within n c slots (f ∷ callers) (Some v) values = plain n _ values (own_none c 0 slots)
    (record { few = omega arith; begun = (tt, tt); gentle = deaths_gentle n (own_cells c slots) })

put_combined_within : (n to : ℕ) (r : Result ℤ Fault) → RowWithin n (put_combined to r)
put_combined_within n to (Ok x) = record { few = omega arith; begun = (tt, tt); gentle = (tt, ((tt, tt), tt)) }
put_combined_within n to (Err f) = tt

reduced_within : (n to : ℕ) (r : Reduction) (copy original : cells.Cell) → RowWithin n (reduced to r copy original)
reduced_within n to r cell.Dead original = tt
reduced_within n to r cell.Unset cell.Dead = tt
reduced_within n to r cell.Unset cell.Unset = tt
reduced_within n to r cell.Unset (cell.Int x) = tt
reduced_within n to r (cell.Int copy) cell.Dead = tt
reduced_within n to r (cell.Int copy) cell.Unset = tt
reduced_within n to r (cell.Int copy) (cell.Int original) = put_combined_within n to (combine r original copy)

pub reduce_within : (n : ℕ) (c : Context) (r : Reduction) (copy : ℕ) (p : Place) (values : List Val)
    → AskedWithin n (reduce_row c r copy p) values
reduce_within n c r copy p values = plain n _ values (refl, (refl, tt)) (reduced_within n (c.frame.next + 1) r
    (cell_in (first_of values)) (cell_in (first_of (rest_of values))))

forked_within : (n : ℕ) (launch : Launch) (task : List ℕ) (team : Team) (frame : Frame) (ns : List ℤ)
    (busy : Option ℕ) → RowWithin n (forked launch task team frame ns busy)
forked_within n launch task team frame ns (Some worker) = tt
forked_within n launch task team frame ns None = record {
  few = omega arith;
  begun = (tt, (tt, (member_within n team frame, tt)));
  gentle = gentle_append n (member_controls team frame 1 (team.size - 1)) _
      (controls_gentle n team frame 1 (team.size - 1)) (gentle_append n (member_puts ns team.size) _
      (values_gentle n ns team.size) (tt, tt));
}

team_within : (n worker : ℕ) (launch : Launch) (body : Body) (c : Context) (team : Team) (ns : List ℤ)
    (values : List Val) → AskedWithin n (team_row worker launch body c team ns) values
team_within n worker launch body c team ns values =
    plain n _ values (none_append _ _ (workers_none 1 (team.size - 1))
    (none_append _ _ (members_none team.name body.given 0 team.size) (refl, tt)))
    (forked_within n launch c.task team _ ns (first_busy 1 (team.size - 1) values))

named_within : (n worker workers : ℕ) (launch : Launch) (body : Body) (c : Context) (asked : Option ℕ) (ns : List ℤ)
    (values : List Val) → AskedWithin n (named_row worker workers launch body c asked ns) values
named_within n worker workers launch body c asked ns values = if_asked n (nat_lt 62 (length c.task)) _ _ values
    (by_control n (Faults fault.Name) values tt) (team_within n worker launch body c (team_of workers c asked) ns
    values)

sized_within : (n worker workers : ℕ) (launch : Launch) (body : Body) (c : Context) (size : Option ℤ) (ns : List ℤ)
    (values : List Val) → AskedWithin n (sized_row worker workers launch body c size ns) values
sized_within n worker workers launch body c None ns values = lacks n values
sized_within n worker workers launch body c (Some (pos zero)) ns values = by_control n (Faults fault.Size) values tt
sized_within n worker workers launch body c (Some (pos (suc k))) ns values = named_within n worker workers launch
    body c (Some (suc k)) ns values
sized_within n worker workers launch body c (Some (negsuc k)) ns values = by_control n (Faults fault.Size) values tt

pub fork_within : (n worker workers : ℕ) (launch : Launch) (body : Body) (c : Context) (sized : Bool)
    (size : Option ℤ) (ints : Option (List ℤ)) (values : List Val)
    → AskedWithin n (fork_row worker workers launch body c sized size ints) values
fork_within n worker workers launch body c sized size None values = lacks n values
fork_within n worker workers launch body c false size (Some ns) values = named_within n worker workers launch body c
    None ns values
fork_within n worker workers launch body c true size (Some ns) values = sized_within n worker workers launch body c
    size ns values

pub begin_within : (n worker to : ℕ) (c : Context) (values : List Val) → AskedWithin n (begin_row worker to c) values
begin_within n worker to c values = plain n _ values (refl, tt)
    (record { few = omega arith; begun = (tt, tt); gentle = (tt, tt) })

pub arrive_within : (n worker to : ℕ) (b : Barrier) (c : Context) (values : List Val)
    → AskedWithin n (arrive_row worker to b c) values
arrive_within n worker to b c values =
    if_asked n (is_misplaced_barrier b c) _ _ values (by_control n (Faults fault.Nesting) values tt)
    (plain n (reached_row worker to b c) values (refl, (refl, tt))
    (record { few = omega arith; begun = (tt, tt); gentle = ((tt, tt), (tt, tt)) }))

barrier_none : (team : Team) (phase : ℕ) → AddNone (barrier team phase)
barrier_none team phase = none_append _ _ (arrivals_none team.name 0 team.size) (refl, tt)

departed_within : (n to : ℕ) (b : Barrier) (c : Context) (opens : Bool) → RowWithin n (departed to b c opens)
departed_within n to b c false = tt
departed_within n to b c true = record {
  few = omega arith;
  begun = (tt, (tt, tt));
  gentle = gentle_append n
      (kept c.team.size) _ (keeps_gentle n (c.team.size + 1)) (tt, tt);
}

pub depart_within : (n worker to : ℕ) (b : Barrier) (c : Context) (values : List Val)
    → AskedWithin n (depart_row worker to b c) values
depart_within n worker to b c values = plain n _ values (none_append _ _ (barrier_none c.team c.phase) (refl, tt))
    (departed_within n to b c (is_open c.phase c.team.size values))

left_within : (n : ℕ) (c : Context) (below : List Context) (own : List Access) (opens : Bool)
    → RowWithin n (left c below own opens)
left_within n c below own false = tt
left_within n c below own true = record {
  few = omega arith;
  begun = (tt, tt);
  gentle = gentle_append n
      (kept c.team.size) _ (keeps_gentle n (c.team.size + 1)) (gentle_append n (deaths own) _ (deaths_gentle n own)
      (tt, tt));
}

left_row_within : (n worker : ℕ) (c : Context) (below : List Context) (slots : List Slot) (values : List Val)
    → AskedWithin n (left_row worker c below (own_cells c slots)) values
left_row_within n worker c below slots values =
    plain n _ values (none_append _ _ (barrier_none c.team c.phase) (none_append _ _ (own_none c 0 slots)
    (refl, tt))) (left_within n c below (own_cells c slots) (is_open c.phase c.team.size values))

pub leave_within : (n worker : ℕ) (c : Context) (below : List Context) (slots : List Slot) (k : Kind) (number : ℕ)
    (values : List Val) → AskedWithin n (leave_row worker c below slots k number) values
leave_within n worker c below slots kind.Initial number values = lacks n values
leave_within n worker c below slots kind.Explicit number values = lacks n values
leave_within n worker c [] slots kind.Implicit zero values = lacks n values
leave_within n worker c [] slots kind.Implicit (suc k) values = left_row_within n worker c [] slots values
leave_within n worker c (b ∷ below) slots kind.Implicit zero values = left_row_within n worker c (b ∷ below) slots
    values
leave_within n worker c (b ∷ below) slots kind.Implicit (suc k) values = left_row_within n worker c (b ∷ below)
    slots values

-- the counts of a task are different objects
counts_once : (parent : List ℕ) (c : Context) (group : Option (List ℕ)) (worker : ℕ)
    → AddOnce (counts parent c group ++ events worker ∷ [])
counts_once parent c None worker = (λ e. refl, (λ e. refl, (λ e. refl, tt)))
counts_once parent c (Some g) worker = (λ e. refl, (λ e. refl, (λ e. refl, (λ e. refl, tt))))

ups_gentle : (n : ℕ) (group : Option (List ℕ)) (us : List Update) → AreGentle n us
    → AreGentle n (additions (pos 1) group ++ us)
ups_gentle n None us h = ((omega (arith, ints), omega (arith, ints)), ((omega (arith, ints), omega (arith, ints)), h))
ups_gentle n (Some g) us h = (
  (omega (arith, ints), omega (arith, ints)),
  ((omega (arith, ints), omega (arith, ints)), ((omega (arith, ints), omega (arith, ints)), h)),
)

downs_gentle : (n : ℕ) (group : Option (List ℕ)) (us : List Update) → AreGentle n us
    → AreGentle n (additions (negsuc 0) group ++ us)
downs_gentle n None us h = ((omega (arith, ints), omega (arith, ints)), ((omega (arith, ints), omega (arith, ints)), h))
downs_gentle n (Some g) us h = (
  (omega (arith, ints), omega (arith, ints)),
  ((omega (arith, ints), omega (arith, ints)), ((omega (arith, ints), omega (arith, ints)), h)),
)

made_within : (n : ℕ) (m : Making) (body : Body) (c : Context) (ns : List ℤ) (new : Option (List ℕ))
    (values : List Val) → IsWithin n c → AskedWithin n (made_row m body c ns new) values
made_within n m body c ns None values w = by_control n (Faults fault.Name) values tt
made_within n m body c ns (Some new) values w = record {
  names = (
    (λ e. cc),
    once_append (given_cells new 0 body.given) _ (given_none new 0 body.given)
        (counts_once c.task c (group_of c) m.worker),
  );
  row = record {
    few = omega arith;
    begun = (tt, (tt, tt));
    gentle = (
      (tt, w.phase),
      gentle_append n (puts ns) _
          (puts_gentle n ns) (ups_gentle n (group_of c) _ (tt, tt)),
    );
  };
}

given_ints_within : (n : ℕ) (m : Making) (body : Body) (c : Context) (ints : Option (List ℤ)) (values : List Val)
    → IsWithin n c → AskedWithin n (given_row m body c ints) values
given_ints_within n m body c None values w = lacks n values
given_ints_within n m body c (Some ns) values w = made_within n m body c ns (born c) values w

pub spawn_within : (n : ℕ) (m : Making) (body : Body) (c : Context) (values : List Val) → IsWithin n c
    → AskedWithin n (spawn_row m body c) values
spawn_within n m body c values w = given_ints_within n m body c (ints_on m.launch.takes c.frame.operands) values w

ended_within : (n worker : ℕ) (c : Context) (below : List Context) (slots : List Slot) (values : List Val)
    → AskedWithin n (ended_row worker c below (own_cells c slots)) values
ended_within n worker c [] slots values = lacks n values
ended_within n worker c (b ∷ below) slots values = record {
  names = (
    (λ e. cc),
    once_append (own_cells c slots) _ (own_none c 0 slots)
        (counts_once (above c.task) c c.group worker),
  );
  row = record {
    few = omega arith;
    begun = (tt, tt);
    gentle = (
      (tt, tt),
      gentle_append n (deaths (own_cells c slots)) _ (deaths_gentle n (own_cells c slots))
          (downs_gentle n c.group _ (tt, tt)),
    );
  };
}

end_within : (n worker : ℕ) (stack : Stack) (slots : List Slot) (k : Kind) (values : List Val)
    → AskedWithin n (end_row_of worker stack slots k) values
end_within n worker stack slots kind.Initial values = lacks n values
end_within n worker stack slots kind.Implicit values = lacks n values
end_within n worker stack slots kind.Explicit values = ended_within n worker stack.top stack.below slots values

pub task_end_within : (n worker : ℕ) (stack : Stack) (slots : List Slot) (values : List Val)
    → AskedWithin n (task_end_row worker stack slots) values
task_end_within n worker stack slots values = end_within n worker stack slots stack.top.kind values

pub wait_begin_within : (n worker to : ℕ) (c : Context) (values : List Val)
    → AskedWithin n (wait_begin_row worker to c) values
wait_begin_within n worker to c values = plain n _ values (refl, tt)
    (record { few = omega arith; begun = (tt, tt); gentle = (tt, tt) })

waited_within : (n to : ℕ) (c : Context) (over : Bool) → RowWithin n (waited to c over)
waited_within n to c true = record { few = omega arith; begun = (tt, tt); gentle = (tt, (tt, tt)) }
waited_within n to c false = tt

pub wait_end_within : (n worker to : ℕ) (c : Context) (values : List Val) → AskedWithin n (wait_end_row worker to c)
    values
wait_end_within n worker to c values = plain n _ values (refl, (refl, tt))
    (waited_within n to c (is_zero (count_in (first_of values))))

pub yield_within : (n to : ℕ) (values : List Val) → AskedWithin n (task_yield_row to) values
yield_within n to values = by_control n _ values (record { few = omega arith; begun = (tt, tt); gentle = tt })

opened_within : (n worker to : ℕ) (c : Context) (group : Option (List ℕ)) (values : List Val)
    → AskedWithin n (opened_row worker to c group) values
opened_within n worker to c None values = by_control n (Faults fault.Name) values tt
opened_within n worker to c (Some group) values = plain n _ values (refl, tt)
    (record { few = omega arith; begun = (tt, (tt, (tt, tt))); gentle = (tt, tt) })

pub group_begin_within : (n worker to : ℕ) (c : Context) (values : List Val)
    → AskedWithin n (group_begin_row worker to c) values
group_begin_within n worker to c values = opened_within n worker to c (born c) values

closed_within : (n to : ℕ) (c : Context) (over : Bool) → RowWithin n (closed to c over)
closed_within n to c true = record { few = omega arith; begun = (tt, (tt, tt)); gentle = (tt, (tt, tt)) }
closed_within n to c false = tt

closed_row_within : (n worker to : ℕ) (c : Context) (group : Option (List ℕ)) (values : List Val)
    → AskedWithin n (closed_row worker to c group) values
closed_row_within n worker to c None values = lacks n values
closed_row_within n worker to c (Some group) values = plain n _ values (refl, (refl, tt))
    (closed_within n to c (is_zero (count_in (first_of values))))

pub group_end_within : (n worker to : ℕ) (c : Context) (values : List Val)
    → AskedWithin n (group_end_row worker to c) values
group_end_within n worker to c values = closed_row_within n worker to c (innermost_group (innermost c.constructs))
    values

finished_within : (n : ℕ) (c : Context) (x : ℤ) (over : Bool) → RowWithin n (finished c x over)
finished_within n c x true = record { few = omega arith; begun = (tt, tt); gentle = (tt, (tt, tt)) }
finished_within n c x false = tt

finished_row_within : (n worker : ℕ) (c : Context) (k : Kind) (v : Option ℤ) (values : List Val)
    → AskedWithin n (finished_row worker c k v) values
finished_row_within n worker c kind.Implicit v values = lacks n values
finished_row_within n worker c kind.Explicit v values = lacks n values
finished_row_within n worker c kind.Initial None values = lacks n values
finished_row_within n worker c kind.Initial (Some x) values = plain n _ values (refl, (refl, tt))
    (finished_within n c x (is_zero (count_in (first_of values))))

pub finish_within : (n worker : ℕ) (c : Context) (has_value : Bool) (values : List Val)
    → AskedWithin n (finish_row worker c has_value) values
finish_within n worker c has_value values = finished_row_within n worker c c.kind (value_of c has_value) values

-- what a task waits with has no phase above n, where none has that is read
ready_if : (n : ℕ) (b : Bool) (r x : Ready) → r.phase ≤ n → (if b then Some r else None) ≡ Some x → x.phase ≤ n
ready_if n true r x h e = let same : r ≡ x = cc in subst (λ (y : Ready). y.phase ≤ n) same h
ready_if n false r x h e = cc

ready_within : (n : ℕ) (team : List ℕ) (t : tasks.Task) (x : Ready) → TaskWithin n t → ready_for team t ≡ Some x
    → x.phase ≤ n
ready_within n team (task.Ready r) x h e = ready_if n (pointwise nat_eq r.team team) r x h e
ready_within n team task.Absent x h e = cc
ready_within n team (task.Running w) x h e = cc
ready_within n team task.Done x h e = cc

context_within : (n : ℕ) (name : List ℕ) (c : Context) (ready : Ready) → ready.phase ≤ n
    → IsWithin n (task_context name c ready)
context_within n name c ready h = record {
  births = omega arith;
  regions = omega arith;
  phase = h;
  frames = omega
      arith;
}

started_within : (n worker : ℕ) (name : List ℕ) (c : Context) (s : statuses.TaskStatus) (r : Option Ready)
    → ((x : Ready) → r ≡ Some x → x.phase ≤ n) → RowWithin n (started worker name c s r)
started_within n worker name c s None h = tt
started_within n worker name c s (Some ready) h = record {
  few = omega arith;
  begun = (context_within n name c ready (h ready refl), tt);
  gentle = ((tt, tt), (tt, tt));
}

task_read : (n : ℕ) (v : Val) → ValueWithin n v → TaskWithin n (task_in v)
task_read n (value.Task t) h = h
task_read n (value.Control c) h = tt
task_read n (value.Cell c) h = tt
task_read n (value.Count k) h = tt
task_read n (value.Number k) h = tt
task_read n (value.Lock k) h = tt
task_read n (value.Output k) h = tt
task_read n (value.Events k) h = tt

first_read : (n : ℕ) (values : List Val) → ValuesWithin n values → TaskWithin n (task_in (first_of values))
first_read n [] h = tt
first_read n (v ∷ values) h = task_read n v h.0

started_row_within : (n worker : ℕ) (name : List ℕ) (c : Context) (admits : Bool) (s : Option statuses.TaskStatus)
    (values : List Val) → ValuesWithin n values → AskedWithin n (started_row worker name c admits s) values
started_row_within n worker name c admits None values h = by_control n _ values tt
started_row_within n worker name c false (Some s) values h = by_control n _ values tt
started_row_within n worker name c true (Some s) values h =
    plain n _ values (refl, (refl, tt))
    (started_within n worker name c s (ready_for c.team.name (task_in (first_of values)))
    (λ x e. ready_within n c.team.name (task_in (first_of values)) x (first_read n values h) e))

pub start_within : (n : ℕ) (s : Starting) (name : List ℕ) (c : Context) (values : List Val) → ValuesWithin n values
    → AskedWithin n (start_row s name c) values
start_within n s name c values h = started_row_within n s.worker name c s.admits s.status values h
