-- A serial instruction pushes and puts ints alone, where its operands are ints and its cell holds one.
use Rattle.std.proofs.Common.{ℕ, ◌+◌, ℤ, pos, Bool, true, false, List, [], ◌∷◌, ◌++◌, Option, None, Some}
use Rattle.std.specs.Ordering.{int_eq}
use Rattle.std.specs.Prelude.{All, IfSome, Result, Ok, Err, slice_get}
use Rattle.om_code.specs.declared.frame.Cell as cells
use Rattle.om_code.specs.declared.frame.Cell.TheVariants as cell
use Rattle.om_code.specs.declared.frame.Fault.{Fault}
use Rattle.om_code.specs.declared.frame.Operand.{Operand}
use Rattle.om_code.specs.declared.frame.Operand.TheVariants as operand
use Rattle.om_code.specs.declared.instruction.AtomicOperator.{AtomicOperator}
use Rattle.om_code.specs.declared.instruction.Instr.TheVariants as i
use Rattle.om_code.specs.declared.instruction.Serial.{Serial}
use Rattle.om_code.specs.declared.instruction.Serial.TheVariants as serials
use Rattle.om_code.specs.declared.instruction.Side.{Side}
use Rattle.om_code.specs.declared.raw.Raw.{Raw}
use Rattle.om_code.specs.declared.raw.Slot.{Slot}
use Rattle.om_code.specs.Frames.{Touch}
use Rattle.om_code.specs.Frames as touch
use Rattle.om_code.specs.declared.act.Turn.{Turn}
use Rattle.om_code.specs.declared.act.Turn.TheVariants as turn
use Rattle.om_code.specs.Arithmetic.{operate, operate_on_one, update}
use Rattle.om_code.specs.Frames.{Act, act, on_operand, on_int, on_ints, at_index, int_at, gives, put, loaded, stored}
use Rattle.om_code.specs.Frames.{updated, cells_in, index_in, used, jump_if, left_by, kept, print}
use Rattle.om_code.specs.Printing.{ints_on}
use Rattle.om_state.specs.declared.control.Context.{Context}
use Rattle.om_state.specs.declared.step.Update.{Update}
use Rattle.om_state.specs.declared.value.Val.{Val}
use Rattle.om_state.specs.declared.value.Val.TheVariants as value
use Rattle.om_state.specs.Values.{cell_in}
use Rattle.om_team_serial.specs.Rows.{first_of, rest_of}
use Rattle.om_team_serial.specs.SerialRows.{put_of, row_of, unsets, cells_of_slot, touch_row, serial_row, slots_in}
use Rattle.std.proofs.lemmas.List.Elements.{All-nil, All-head, All-tail}
use Rattle.om_soundness.specs.Ints.{IsInt, HasIntConstant, IsIntOperand, HoldsInt, FrameHasInts, ValueHasInts}
use Rattle.om_soundness.proofs.IntEdits.{UpdatesHaveInts, RowHasInts}
use Rattle.om_soundness.proofs.Updates.{put_unsets}
use Rattle.om_soundness.proofs.IntValues.{IsIntResult, operate_int, operate_on_one_int, update_int, found_one, at_int}

-- ---- what is read

cell_int : (v : Val) → ValueHasInts v → HoldsInt (cell_in v)
cell_int (value.Cell c) h = h
cell_int (value.Control c) h = tt
cell_int (value.Task t) h = tt
cell_int (value.Count k) h = tt
cell_int (value.Number k) h = tt
cell_int (value.Lock k) h = tt
cell_int (value.Output k) h = tt
cell_int (value.Events k) h = tt

pub first_int : (values : List Val) → All ValueHasInts values → HoldsInt (cell_in (first_of values))
first_int [] h = tt
first_int (v ∷ rest) h = cell_int v (All-head ValueHasInts v rest h)

pub rest_ints : (values : List Val) → All ValueHasInts values → All ValueHasInts (rest_of values)
rest_ints [] h = All-nil ValueHasInts
rest_ints (v ∷ rest) h = All-tail ValueHasInts v rest h

-- ---- turns

abbrev TurnHasInts : Turn → Type 0
TurnHasInts (turn.Goes jump takes pushed puts) = IfSome pushed IsIntOperand × IfSome puts IsInt
TurnHasInts _ = Unit {0}

record ActHasInts (a : Act) : Type 0 where
  turns : (c : cells.Cell) → HoldsInt c → TurnHasInts (a.turn c)

gives_int : (takes : ℕ) (r : Result ℤ Fault) → IsIntResult r → TurnHasInts (gives takes r)
gives_int takes (Ok v) h = (h, tt)
gives_int takes (Err f) h = tt

put_int : (takes : ℕ) (r : Result ℤ Fault) → IsIntResult r → TurnHasInts (put takes r)
put_int takes (Ok v) h = (tt, h)
put_int takes (Err f) h = tt

loaded_int : (takes : ℕ) (c : cells.Cell) → HoldsInt c → TurnHasInts (loaded takes c)
loaded_int takes (cell.Int v) h = (h, tt)
loaded_int takes cell.Unset h = tt
loaded_int takes cell.Dead h = tt

stored_int : (takes : ℕ) (pushed : Option Operand) (v : ℤ) (c : cells.Cell) → IfSome pushed IsIntOperand → IsInt v
    → TurnHasInts (stored takes pushed v c)
stored_int takes pushed v (cell.Int w) p h = (p, h)
stored_int takes pushed v cell.Unset p h = (p, h)
stored_int takes pushed v cell.Dead p h = tt

updated_int : (takes : ℕ) (operator : AtomicOperator) (side : Side) (v : ℤ) (c : cells.Cell) → IsInt v → HoldsInt c
    → TurnHasInts (updated takes operator side v c)
updated_int takes operator side v (cell.Int w) h k =
    put_int takes (update operator side w v) (update_int operator side w v k h)
updated_int takes operator side v cell.Unset h k = tt
updated_int takes operator side v cell.Dead h k = tt

used_int : (x : Operand) → TurnHasInts (used x)
used_int (operand.Int v) = (tt, tt)
used_int operand.NoValue = tt

jump_int : (b : Bool) (target : ℕ) → TurnHasInts (jump_if b target)
jump_int true target = (tt, tt)
jump_int false target = (tt, tt)

kept_int : (keeps : Bool) (v : ℤ) → IsInt v → IfSome (kept keeps v) IsIntOperand
kept_int true v h = h
kept_int false v h = tt

-- ---- acts

with_operand : (x : Option Operand) (row : Operand → Act) → IfSome x IsIntOperand
    → ((a : Operand) → IsIntOperand a → ActHasInts (row a)) → ActHasInts (on_operand x row)
with_operand None row h k = record { turns = λ c r. tt }
with_operand (Some a) row h k = k a h

with_int : (x : Option ℤ) (row : ℤ → Act) → IfSome x IsInt → ((a : ℤ) → IsInt a → ActHasInts (row a))
    → ActHasInts (on_int x row)
with_int None row h k = record { turns = λ c r. tt }
with_int (Some a) row h k = k a h

with_ints : (x y : Option ℤ) (row : ℤ → ℤ → Act) → IfSome x IsInt → IfSome y IsInt
    → ((a b : ℤ) → IsInt a → IsInt b → ActHasInts (row a b)) → ActHasInts (on_ints x y row)
with_ints None y row h g k = record { turns = λ c r. tt }
with_ints (Some a) None row h g k = record { turns = λ c r. tt }
with_ints (Some a) (Some b) row h g k = k a b h g

with_index : (x : Option ℕ) (row : ℕ → Act) → ((n : ℕ) → ActHasInts (row n)) → ActHasInts (at_index x row)
with_index None row k = record { turns = λ c r. tt }
with_index (Some n) row k = k n

print_ints : (text values : ℕ) (vs : Option (List ℤ)) → ActHasInts (print text values vs)
print_ints text values None = record { turns = λ c r. tt }
print_ints text values (Some vs) = record { turns = λ c r. (tt, tt) }

act_ints : (program : Raw) (slots : List Slot) (instr : Serial) (s : List Operand) → HasIntConstant (i.Serial instr)
    → All IsIntOperand s → ActHasInts (act program slots instr s)
act_ints program slots (serials.Constant v) s k h = record { turns = λ c r. (k, tt) }
act_ints program slots serials.Duplicate s k h =
    with_operand (slice_get s 0) _ (found_one IsIntOperand s 0 h) (λ a g. record { turns = λ c r. (g, tt) })
act_ints program slots serials.Pop s k h =
    with_operand (slice_get s 0) _ (found_one IsIntOperand s 0 h) (λ a g. record { turns = λ c r. (tt, tt) })
act_ints program slots serials.Use s k h =
    with_operand (slice_get s 0) _ (found_one IsIntOperand s 0 h) (λ a g. record { turns = λ c r. used_int a })
act_ints program slots serials.Nop s k h = record { turns = λ c r. (tt, tt) }
act_ints program slots (serials.Unary o) s k h =
    with_int (int_at 0 s) _ (at_int 0 s h)
    (λ a g. record { turns = λ c r. gives_int 1 (operate_on_one o a) (operate_on_one_int o a) })
act_ints program slots (serials.Binary o) s k h =
    with_ints (int_at 1 s) (int_at 0 s) _ (at_int 1 s h) (at_int 0 s h)
    (λ a b f g. record { turns = λ c r. gives_int 2 (operate o a b) (operate_int o a b g) })
act_ints program slots (serials.Jump target) s k h = record { turns = λ c r. (tt, tt) }
act_ints program slots (serials.JumpIfZero target) s k h =
    with_int (int_at 0 s) _ (at_int 0 s h) (λ a g. record { turns = λ c r. jump_int (int_eq a (pos 0)) target })
act_ints program slots (serials.Load place) s k h = record { turns = λ c r. loaded_int 0 c r }
act_ints program slots (serials.Store place keeps) s k h =
    with_int (int_at 0 s) _ (at_int 0 s h) (λ a g. record { turns = λ c r. stored_int (left_by keeps) None a c tt g })
act_ints program slots (serials.LoadElement place) s k h =
    with_int (int_at 0 s) _ (at_int 0 s h)
    (λ a g. with_index (index_in (cells_in program slots place) a) _ (λ n. record { turns = λ c r. loaded_int 1 c r }))
act_ints program slots (serials.StoreElement place keeps) s k h =
    with_ints (int_at 1 s) (int_at 0 s) _ (at_int 1 s h) (at_int 0 s h)
    (λ a b f g. with_index (index_in (cells_in program slots place) a) _
    (λ n. record { turns = λ c r. stored_int 2 (kept keeps b) b c (kept_int keeps b g) g }))
act_ints program slots (serials.Clear slot) s k h = record { turns = λ c r. (tt, tt) }
act_ints program slots (serials.Print text values) s k h = print_ints text values (ints_on values s)
act_ints program slots (serials.Atomic o side place) s k h =
    with_int (int_at 0 s) _ (at_int 0 s h) (λ a g. record { turns = λ c r. updated_int 1 o side a c g r })
act_ints program slots (serials.AtomicElement o side place) s k h =
    with_ints (int_at 1 s) (int_at 0 s) _ (at_int 1 s h) (at_int 0 s h)
    (λ a b f g. with_index (index_in (cells_in program slots place) a) _
    (λ n. record { turns = λ c r. updated_int 2 o side b c g r }))

-- ---- rows

put_of_ints : (o : Option ℤ) (us : List Update) → IfSome o IsInt → UpdatesHaveInts us
    → UpdatesHaveInts (put_of o ++ us)
put_of_ints None us h p = p
put_of_ints (Some v) us h p = (h, p)

turn_ints : (to : ℕ) (us : List Update) (t : Turn) → TurnHasInts t → UpdatesHaveInts us → RowHasInts (row_of to us t)
turn_ints to us (turn.Goes jump takes pushed puts) h p = ((h.0, tt), put_of_ints puts us h.1 p)
turn_ints to us (turn.Faults f) h p = tt
turn_ints to us turn.Lacks h p = tt
turn_ints to us (turn.Returns v) h p = tt
turn_ints to us (turn.Finishes v) h p = tt

touch_ints : (program : Raw) (c : Context) (t : cells.Cell → Turn) (x : Touch) (values : List Val)
    → All ValueHasInts values → ((y : cells.Cell) → HoldsInt y → TurnHasInts (t y))
    → RowHasInts ((touch_row program c t x).row values)
touch_ints program c t touch.Nothing values v h =
    turn_ints (c.frame.next + 1) [] (t cell.Unset) (h cell.Unset tt) tt
touch_ints program c t (touch.Reads p index) values v h =
    turn_ints (c.frame.next + 1) [] (t (cell_in (first_of values)))
    (h (cell_in (first_of values)) (first_int values v)) tt
touch_ints program c t (touch.Writes p index) values v h =
    turn_ints (c.frame.next + 1) [] (t (cell_in (first_of values)))
    (h (cell_in (first_of values)) (first_int values v)) tt
touch_ints program c t (touch.Clears slot) values v h =
    turn_ints (c.frame.next + 1) (unsets (cells_of_slot program c slot)) (t cell.Unset) (h cell.Unset tt)
    (put_unsets ValueHasInts (cells_of_slot program c slot) tt)
touch_ints program c t (touch.Prints text count) values v h =
    turn_ints (c.frame.next + 1) _ (t cell.Unset) (h cell.Unset tt) (tt, tt)

pub serial_ints : (program : Raw) (c : Context) (instr : Serial) (values : List Val) → HasIntConstant (i.Serial instr)
    → FrameHasInts c.frame → All ValueHasInts values → RowHasInts ((serial_row program c instr).row values)
serial_ints program c instr values k h v =
    let a : Act = act program (slots_in program c) instr c.frame.operands in
    touch_ints program c a.turn a.touch values v
    (act_ints program (slots_in program c) instr c.frame.operands k h).turns
