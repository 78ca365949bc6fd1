-- The rows of serial instructions, barriers and tasks are shaped: they name no control, and put cells at cells.
use Rattle.std.proofs.Common.{refl, ℕ, zero, suc, ℤ, Bool, true, false, List, [], ◌∷◌, Option, None, Some, length}
use Rattle.std.specs.Prelude.{nat_le, ◌+◌, pos, negsuc}
use Rattle.om_foot.specs.Names.{above}
use Rattle.om_code.specs.declared.frame.Cell as cells
use Rattle.om_code.specs.declared.frame.Cell.TheVariants as cell
use Rattle.om_code.specs.declared.frame.Fault.TheVariants as fault
use Rattle.om_code.specs.declared.frame.Operand.{Operand}
use Rattle.om_code.specs.declared.instruction.Barrier.{Barrier}
use Rattle.om_code.specs.declared.instruction.Serial.{Serial}
use Rattle.om_code.specs.declared.instruction.Place.{Place}
use Rattle.om_code.specs.declared.instruction.Place.TheVariants as place
use Rattle.om_code.specs.declared.instruction.Reduction.{Reduction}
use Rattle.om_code.specs.declared.raw.Body.{Body}
use Rattle.om_code.specs.declared.raw.Raw.{Raw}
use Rattle.om_code.specs.declared.raw.Slot.{Slot}
use Rattle.om_code.specs.Frames.{Touch}
use Rattle.om_code.specs.Frames as touch
use Rattle.om_code.specs.declared.act.Turn.{Turn}
use Rattle.om_code.specs.Frames.{act}
use Rattle.om_code.specs.Printing.{ints_on}
use Rattle.om_events.specs.declared.kind.TaskStatus as statuses
use Rattle.om_state.specs.declared.control.Context.{Context}
use Rattle.om_state.specs.declared.control.Frame.{Frame}
use Rattle.om_state.specs.declared.control.Kind.{Kind}
use Rattle.om_state.specs.declared.control.Kind.TheVariants as kind
use Rattle.om_state.specs.declared.control.Stack.{Stack}
use Rattle.om_team_serial.specs.declared.row.Launch.{Launch}
use Rattle.om_team_serial.specs.declared.row.Row.TheVariants.{Faults, Lacks}
use Rattle.om_state.specs.Values.{cell_in}
use Rattle.om_team_serial.specs.Objects.{own_cells, innermost, puts, deaths}
use Rattle.om_team_serial.specs.Rows.{first_of, rest_of}
use Rattle.om_team_serial.specs.SerialRows.{touch_row, serial_row, slots_in, number_row, call_row, return_row, reduce_row}
use Rattle.om_team_serial.specs.SerialRows.{unsets, cells_of_slot}
use Rattle.om_team_worksharing.specs.Barriers.{is_open}
use Rattle.om_team.specs.Rows.{begin_row}
use Rattle.om_team_serial.specs.Ends.{value_of, finished_row, finish_row}
use Rattle.om_team_worksharing.specs.Rows.{reached_row, is_misplaced_barrier, arrive_row, depart_row, left_row, leave_row}
use Rattle.om_task.specs.declared.task_start.Starting.{Starting}
use Rattle.om_task.specs.declared.task.Making.{Making}
use Rattle.om_task.specs.Tasks.{born, group_of, innermost_group}
use Rattle.om_task.specs.Rows.{made_row, given_row, spawn_row, ended_row, end_row_of, task_end_row, wait_begin_row}
use Rattle.om_task.specs.Rows.{wait_end_row, task_yield_row, opened_row, group_begin_row, closed_row, group_end_row}
use Rattle.om_task.specs.Rows.{started_row, start_row}
use Rattle.om_task.proofs.NoControls.{AskedShaped, none_append, object_none, slot_none, given_none, own_none}
use Rattle.om_task.proofs.NoControls.{barrier_none, counts_none, plain, of_cells, apart, by_control, if_asked}
use Rattle.om_task.proofs.CellPuts.{only_cells, puts_cells, deaths_cells, unsets_cells, task_cells, turn_cells}
use Rattle.om_task.proofs.CellPuts.{reduced_cells, departed_cells, left_cells}

touch_shaped : (raw : Raw) (c : Context) (t : cells.Cell → Turn) (x : Touch) → AskedShaped (touch_row raw c t x)
touch_shaped raw c t touch.Nothing = by_control _
touch_shaped raw c t (touch.Reads p index) = of_cells _ (object_none c p index, tt)
    (λ values. turn_cells (c.frame.next + 1) [] (t (cell_in (first_of values))) tt)
touch_shaped raw c t (touch.Writes p index) = of_cells _ (object_none c p index, tt)
    (λ values. turn_cells (c.frame.next + 1) [] (t (cell_in (first_of values))) tt)
touch_shaped raw c t (touch.Clears slot) = of_cells _ (slot_none _ _ slot _ 0 _)
    (λ values. turn_cells (c.frame.next + 1) (unsets (cells_of_slot raw c slot)) (t cell.Unset) (unsets_cells _))
touch_shaped raw c t (touch.Prints text count) = apart _ (refl, tt) (refl, tt)

pub serial_shaped : (raw : Raw) (c : Context) (instr : Serial) → AskedShaped (serial_row raw c instr)
serial_shaped raw c instr = touch_shaped raw c (act raw (slots_in raw c) instr c.frame.operands).turn
    (act raw (slots_in raw c) instr c.frame.operands).touch

pub number_shaped : (c : Context) (k : ℕ) → AskedShaped (number_row c k)
number_shaped c k = by_control _

pub call_shaped : (launch : Launch) (body : Body) (c : Context) (ints : Option (List ℤ))
    → AskedShaped (call_row launch body c ints)
call_shaped launch body c None = by_control Lacks
call_shaped launch body c (Some ns) = if_asked (nat_le 999 (length c.callers)) _ _
    (by_control (Faults fault.Frames)) (of_cells _ (given_none c.task c.frames body.given) (λ values. puts_cells ns))

pub return_shaped : (c : Context) (slots : List Slot) (callers : List Frame) (v : Option Operand)
    → AskedShaped (return_row c slots callers v)
return_shaped c slots callers None = by_control Lacks
return_shaped c slots [] (Some v) = by_control Lacks
return_shaped c slots (f ∷ callers) (Some v) = of_cells _ (own_none c slots)
    (λ values. deaths_cells (own_cells c slots))

pub reduce_shaped : (c : Context) (r : Reduction) (copy : ℕ) (p : Place) → AskedShaped (reduce_row c r copy p)
reduce_shaped c r copy p = of_cells _ (object_none c (place.Slot copy) 0, (object_none c p 0, tt))
    (λ values. reduced_cells (c.frame.next + 1) r (cell_in (first_of values)) (cell_in (first_of (rest_of values))))

pub begin_shaped : (worker to : ℕ) (c : Context) → AskedShaped (begin_row worker to c)
begin_shaped worker to c = apart _ (refl, tt) (refl, tt)

pub arrive_shaped : (worker to : ℕ) (b : Barrier) (c : Context) → AskedShaped (arrive_row worker to b c)
arrive_shaped worker to b c = if_asked (is_misplaced_barrier b c) _ _ (by_control (Faults fault.Nesting))
    (apart (reached_row worker to b c) (refl, (refl, tt)) (refl, (refl, tt)))

pub depart_shaped : (worker to : ℕ) (b : Barrier) (c : Context) → AskedShaped (depart_row worker to b c)
depart_shaped worker to b c = of_cells _ (none_append _ _ (barrier_none c.team c.phase) (refl, tt))
    (λ values. departed_cells to b c (is_open c.phase c.team.size values))

left_shaped : (worker : ℕ) (c : Context) (below : List Context) (slots : List Slot)
    → AskedShaped (left_row worker c below (own_cells c slots))
left_shaped worker c below slots = of_cells _ (none_append _ _ (barrier_none c.team c.phase)
    (none_append _ _ (own_none c slots) (refl, tt)))
    (λ values. left_cells c below (own_cells c slots) (is_open c.phase c.team.size values))

pub leave_shaped : (worker : ℕ) (c : Context) (below : List Context) (slots : List Slot) (k : Kind) (number : ℕ)
    → AskedShaped (leave_row worker c below slots k number)
leave_shaped worker c below slots kind.Initial number = by_control Lacks
leave_shaped worker c below slots kind.Explicit number = by_control Lacks
leave_shaped worker c [] slots kind.Implicit zero = by_control Lacks
leave_shaped worker c [] slots kind.Implicit (suc k) = left_shaped worker c [] slots
leave_shaped worker c (b ∷ below) slots kind.Implicit zero = left_shaped worker c (b ∷ below) slots
leave_shaped worker c (b ∷ below) slots kind.Implicit (suc k) = left_shaped worker c (b ∷ below) slots

finished_shaped : (worker : ℕ) (c : Context) (k : Kind) (v : Option ℤ) → AskedShaped (finished_row worker c k v)
finished_shaped worker c kind.Implicit v = by_control Lacks
finished_shaped worker c kind.Explicit v = by_control Lacks
finished_shaped worker c kind.Initial None = by_control Lacks
finished_shaped worker c kind.Initial (Some x) = apart _ (refl, (refl, tt)) (refl, (refl, tt))

pub finish_shaped : (worker : ℕ) (c : Context) (has_value : Bool) → AskedShaped (finish_row worker c has_value)
finish_shaped worker c has_value = finished_shaped worker c c.kind (value_of c has_value)

made_shaped : (m : Making) (body : Body) (c : Context) (ns : List ℤ) (new : Option (List ℕ))
    → AskedShaped (made_row m body c ns new)
made_shaped m body c ns None = by_control (Faults fault.Name)
made_shaped m body c ns (Some new) = plain _ (
  refl,
  none_append _ _ (given_none new 0 body.given)
      (counts_none c.task c (group_of c) m.worker),
)
    (λ values. (tt, only_cells _ _ (task_cells (puts ns) (pos 1) (group_of c) _ (puts_cells ns) tt)))

given_shaped : (m : Making) (body : Body) (c : Context) (ints : Option (List ℤ)) → AskedShaped (given_row m body c ints)
given_shaped m body c None = by_control Lacks
given_shaped m body c (Some ns) = made_shaped m body c ns (born c)

pub spawn_shaped : (m : Making) (body : Body) (c : Context) → AskedShaped (spawn_row m body c)
spawn_shaped m body c = given_shaped m body c (ints_on m.launch.takes c.frame.operands)

ended_shaped : (worker : ℕ) (c : Context) (below : List Context) (slots : List Slot)
    → AskedShaped (ended_row worker c below (own_cells c slots))
ended_shaped worker c [] slots = by_control Lacks
ended_shaped worker c (b ∷ below) slots = plain _ (
  refl,
  none_append _ _ (own_none c slots)
      (counts_none (above c.task) c c.group worker),
)
    (λ values. (
      tt,
      only_cells _ _ (task_cells (deaths (own_cells c slots)) (negsuc 0) c.group _
          (deaths_cells (own_cells c slots)) tt),
    ))

end_shaped : (worker : ℕ) (stack : Stack) (slots : List Slot) (k : Kind) → AskedShaped (end_row_of worker stack slots k)
end_shaped worker stack slots kind.Initial = by_control Lacks
end_shaped worker stack slots kind.Implicit = by_control Lacks
end_shaped worker stack slots kind.Explicit = ended_shaped worker stack.top stack.below slots

pub task_end_shaped : (worker : ℕ) (stack : Stack) (slots : List Slot) → AskedShaped (task_end_row worker stack slots)
task_end_shaped worker stack slots = end_shaped worker stack slots stack.top.kind

pub wait_begin_shaped : (worker to : ℕ) (c : Context) → AskedShaped (wait_begin_row worker to c)
wait_begin_shaped worker to c = apart _ (refl, tt) (refl, tt)

pub wait_end_shaped : (worker to : ℕ) (c : Context) → AskedShaped (wait_end_row worker to c)
wait_end_shaped worker to c = apart _ (refl, (refl, tt)) (refl, (refl, tt))

pub yield_shaped : (to : ℕ) → AskedShaped (task_yield_row to)
yield_shaped to = by_control _

opened_shaped : (worker to : ℕ) (c : Context) (group : Option (List ℕ)) → AskedShaped (opened_row worker to c group)
opened_shaped worker to c None = by_control (Faults fault.Name)
opened_shaped worker to c (Some group) = apart _ (refl, tt) (refl, tt)

pub group_begin_shaped : (worker to : ℕ) (c : Context) → AskedShaped (group_begin_row worker to c)
group_begin_shaped worker to c = opened_shaped worker to c (born c)

closed_shaped : (worker to : ℕ) (c : Context) (group : Option (List ℕ)) → AskedShaped (closed_row worker to c group)
closed_shaped worker to c None = by_control Lacks
closed_shaped worker to c (Some group) = apart _ (refl, (refl, tt)) (refl, (refl, tt))

pub group_end_shaped : (worker to : ℕ) (c : Context) → AskedShaped (group_end_row worker to c)
group_end_shaped worker to c = closed_shaped worker to c (innermost_group (innermost c.constructs))

started_shaped : (worker : ℕ) (name : List ℕ) (c : Context) (admits : Bool) (s : Option statuses.TaskStatus)
    → AskedShaped (started_row worker name c admits s)
started_shaped worker name c admits None = by_control _
started_shaped worker name c false (Some s) = by_control _
started_shaped worker name c true (Some s) = apart _ (refl, (refl, tt)) (refl, (refl, tt))

pub start_shaped : (s : Starting) (name : List ℕ) (c : Context) → AskedShaped (start_row s name c)
start_shaped s name c = started_shaped s.worker name c s.admits s.status
