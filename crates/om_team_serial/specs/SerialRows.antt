-- The rows of serial instructions: those of the frame machine, with objects for variables and updates for what is put.
use Rattle.std.specs.Prelude.{ℕ, ◌+◌, ℤ, pos, nat_le, if◌then◌else◌, Option, None, Some, unwrap_or, Result, Ok, Err}
use Rattle.std.specs.Prelude.{List, [], ◌∷◌, ◌++◌, length}
use Rattle.om_foot.specs.declared.object.Obj.TheVariants as obj
use Rattle.om_foot.specs.declared.footprint.Access.{Access}
use Rattle.om_code.specs.declared.instruction.Serial.{Serial}
use Rattle.om_code.specs.declared.instruction.Place.{Place}
use Rattle.om_code.specs.declared.instruction.Place.TheVariants as place
use Rattle.om_code.specs.declared.instruction.Reduction.{Reduction}
use Rattle.om_code.specs.declared.raw.Body.{Body}
use Rattle.om_code.specs.declared.raw.Raw.{Raw}
use Rattle.om_code.specs.declared.raw.Slot.{Slot}
use Rattle.om_code.specs.declared.frame.Cell as cells
use Rattle.om_code.specs.declared.frame.Cell.TheVariants as cell
use Rattle.om_code.specs.declared.frame.Fault.{Fault}
use Rattle.om_code.specs.declared.frame.Fault.TheVariants as fault
use Rattle.om_code.specs.declared.frame.Operand.{Operand}
use Rattle.om_code.specs.declared.frame.Operand.TheVariants as operand
use Rattle.om_code.specs.Frames.{Touch}
use Rattle.om_code.specs.Frames as touch
use Rattle.om_code.specs.declared.act.Turn.{Turn}
use Rattle.om_code.specs.declared.act.Turn.TheVariants as turn
use Rattle.om_code.specs.Frames.{Act, act, cells_in, print_bytes}
use Rattle.om_code.specs.Places.{slots_of}
use Rattle.om_code.specs.Arithmetic.{combine}
use Rattle.om_state.specs.declared.control.Context.{Context}
use Rattle.om_state.specs.declared.control.Frame.{Frame}
use Rattle.om_state.specs.declared.control.Edit.TheVariants.{Go, BeginFrame, EndFrame}
use Rattle.om_state.specs.declared.step.Tail.TheVariants.{Bytes}
use Rattle.om_state.specs.declared.step.Update.{Update}
use Rattle.om_state.specs.declared.step.Update.TheVariants.{Put, Keep, Append}
use Rattle.om_state.specs.declared.value.Val.TheVariants as value
use Rattle.om_state.specs.Values.{cell_in}
use Rattle.om_team_serial.specs.declared.row.Launch.{Launch}
use Rattle.om_team_serial.specs.declared.row.Answer.{Answer}
use Rattle.om_team_serial.specs.declared.row.Row.{Row}
use Rattle.om_team_serial.specs.declared.row.Row.TheVariants.{Goes, Faults, Lacks}
use Rattle.om_team_serial.specs.Rows.{Asked, decided, goes, first_of, rest_of}
use Rattle.om_team_serial.specs.Objects.{read, write, object_of, home_at, slot_cells, given_cells, own_cells, homes_in, puts}
use Rattle.om_team_serial.specs.Objects.{deaths}

-- the slots of the body that runs in a context
abbrev pub slots_in : Raw → Context → List Slot
slots_in raw c = slots_of raw c.frame.body

-- what a turn puts, and what it makes of its worker: it jumps, or goes on behind its instruction
abbrev pub put_of : Option ℤ → List Update
put_of None = []
put_of (Some n) = Put (value.Cell (cell.Int n)) ∷ []

abbrev pub row_of : ℕ → List Update → Turn → Row
row_of to updates (turn.Goes jump takes pushed put) = Goes (Go (unwrap_or jump to) takes pushed ∷ [])
    (put_of put ++ updates)
row_of to updates (turn.Faults f) = Faults f
row_of to updates turn.Lacks = Lacks
row_of to updates (turn.Returns v) = Lacks
row_of to updates (turn.Finishes n) = Lacks

-- C17 6.7.9p10: what a declaration without initializer leaves
abbrev pub unsets : List Access → List Update
unsets [] = []
unsets (a ∷ rest) = Put (value.Cell cell.Unset) ∷ unsets rest

-- the cells of a slot of the running frame
abbrev pub cells_of_slot : Raw → Context → ℕ → List Access
cells_of_slot raw c slot = slot_cells c.task c.frame.ordinal slot (home_at c.frame.homes slot) 0
    (cells_in raw (slots_in raw c) (place.Slot slot))

-- a slot that becomes unset
abbrev pub cleared : Raw → Context → ℕ → Turn → Answer
cleared raw c slot t = record {
  names = cells_of_slot raw c slot;
  row = row_of (c.frame.next + 1)
      (unsets (cells_of_slot raw c slot)) t;
}

-- the row of what an instruction of the frame machine touches, and of its turn
abbrev pub touch_row : Raw → Context → (cells.Cell → Turn) → Touch → Asked
touch_row raw c t touch.Nothing = decided (row_of (c.frame.next + 1) [] (t cell.Unset))
touch_row raw c t (touch.Reads place index) = record {
  names = read (object_of c place index) ∷ [];
  row = λ values.
      row_of (c.frame.next + 1) [] (t (cell_in (first_of values)));
}
touch_row raw c t (touch.Writes place index) = record {
  names = write (object_of c place index) ∷ [];
  row = λ values. row_of (c.frame.next + 1) [] (t (cell_in (first_of values)));
}
touch_row raw c t (touch.Clears slot) = record {
  names = cells_of_slot raw c slot;
  row = λ _. row_of
      (c.frame.next + 1) (unsets (cells_of_slot raw c slot)) (t cell.Unset);
}
touch_row raw c t (touch.Prints text values) = record {
  names = write obj.Output ∷ [];
  row = λ _. row_of (c.frame.next + 1) (Append (Bytes (print_bytes raw text values c.frame.operands)) ∷ [])
      (t cell.Unset);
}

abbrev pub act_row : Raw → Context → Act → Asked
act_row raw c a = touch_row raw c a.turn a.touch

-- the row of an instruction of the frame machine that goes on in its frame
abbrev pub serial_row : Raw → Context → Serial → Asked
serial_row raw c instr = act_row raw c (act raw (slots_in raw c) instr c.frame.operands)

-- OpenMP 5.2, 18.2: the thread number, and the size of the team
abbrev pub number_row : Context → ℕ → Asked
number_row c n = decided (goes (c.frame.next + 1) 0 (Some (operand.Int (pos n))) [])

-- C17 6.5.2.2: the values go into the parameters of a new frame. A task has at most 1,000 frames
abbrev pub call_row : Launch → Body → Context → Option (List ℤ) → Asked
call_row launch body c None = decided Lacks
call_row launch body c (Some ns) =
    if nat_le 999 (length c.callers) then decided (Faults fault.Frames)
    else record {
      names = given_cells c.task c.frames body.given;
      row = λ _. Goes (BeginFrame launch.to launch.takes launch.body (homes_in c body.slots) ∷ []) (puts ns);
    }

-- C17 6.8.6.4: the frame ends, its cells die (6.2.4p2), and its value is that of the call
abbrev pub return_row : Context → List Slot → List Frame → Option Operand → Asked
return_row c slots callers None = decided Lacks
return_row c slots [] (Some v) = decided Lacks
return_row c slots (caller ∷ callers) (Some v) = record {
  names = own_cells c slots;
  row = λ _. Goes
      (EndFrame v ∷ []) (deaths (own_cells c slots));
}

-- OpenMP 5.2, 5.5.8: a copy of a reduction is combined with its original, in one step
abbrev pub put_combined : ℕ → Result ℤ Fault → Row
put_combined to (Ok n) = goes to 0 None (Keep ∷ Put (value.Cell (cell.Int n)) ∷ [])
put_combined to (Err f) = Faults f

abbrev pub reduced : ℕ → Reduction → cells.Cell → cells.Cell → Row
reduced to r cell.Dead original = Faults fault.Dead
reduced to r cell.Unset cell.Dead = Faults fault.Dead
reduced to r cell.Unset original = Faults fault.Unset
reduced to r (cell.Int copy) cell.Dead = Faults fault.Dead
reduced to r (cell.Int copy) cell.Unset = Faults fault.Unset
reduced to r (cell.Int copy) (cell.Int original) = put_combined to (combine r original copy)

abbrev pub reduce_row : Context → Reduction → ℕ → Place → Asked
reduce_row c r copy p = record {
  names = read (object_of c (place.Slot copy) 0) ∷ write (object_of c p 0) ∷ [];
  row = λ values. reduced (c.frame.next + 1) r (cell_in (first_of values)) (cell_in (first_of (rest_of values)));
}
