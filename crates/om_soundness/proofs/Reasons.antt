-- A row of valid code lacks something for its own reason alone.
use Rattle.std.proofs.Common.{◌≡◌, refl, ℕ, ◌+◌, ◌≤◌, ℤ, pos, arith, Bool, true, false, List, [], ◌∷◌, Option, None}
use Rattle.std.proofs.Common.{Some, length}
use Rattle.std.specs.Ordering.{int_eq}
use Rattle.std.specs.Prelude.{Result, Ok, Err, slice_get}
use Rattle.om_code.specs.declared.frame.Cell as cells
use Rattle.om_code.specs.declared.frame.Cell.TheVariants as cell
use Rattle.om_code.specs.declared.frame.Fault.{Fault}
use Rattle.om_code.specs.declared.frame.Operand.{Operand}
use Rattle.om_code.specs.declared.frame.Operand.TheVariants as operand
use Rattle.om_code.specs.declared.instruction.AtomicOperator.{AtomicOperator}
use Rattle.om_code.specs.declared.instruction.Instr.TheVariants as i
use Rattle.om_code.specs.declared.instruction.Serial.{Serial}
use Rattle.om_code.specs.declared.instruction.Serial.TheVariants as serials
use Rattle.om_code.specs.declared.instruction.Side.{Side}
use Rattle.om_code.specs.declared.raw.Raw.{Raw}
use Rattle.om_code.specs.declared.raw.Slot.{Slot}
use Rattle.om_code.specs.Frames.{Touch}
use Rattle.om_code.specs.Frames as touch
use Rattle.om_code.specs.declared.act.Turn.{Turn}
use Rattle.om_code.specs.declared.act.Turn.TheVariants as turn
use Rattle.om_code.specs.Arithmetic.{operate, operate_on_one, update}
use Rattle.om_code.specs.Frames.{Act, act, on_operand, on_int, on_ints, at_index, int_at, gives, put, loaded, stored}
use Rattle.om_code.specs.Frames.{updated, cells_in, index_in, used, jump_if, left_by, kept, print}
use Rattle.om_code.specs.Printing.{ints_on}
use Rattle.om_code.specs.Ways.{pops}
use Rattle.om_team_serial.specs.declared.row.Row.{Row}
use Rattle.om_team_serial.specs.declared.row.Row.TheVariants as row
use Rattle.om_state.specs.declared.step.Update.{Update}
use Rattle.om_state.specs.declared.control.Context.{Context}
use Rattle.om_state.specs.declared.control.Stack.{Stack}
use Rattle.om_state.specs.declared.value.Val.{Val}
use Rattle.om_state.specs.Values.{cell_in}
use Rattle.om_team_serial.specs.Rows.{first_of}
use Rattle.om_team_serial.specs.SerialRows.{row_of, touch_row, serial_row, slots_in, unsets, cells_of_slot}
use Rattle.om_soundness.specs.Reasons.{HasNoValue, MayLack}
use Rattle.om_soundness.proofs.Operands.{no_int, no_ints}

-- a row that lacks something only for a reason
abbrev pub Only : Type 0 → Row → Type 0
Only reason row.Lacks = reason
Only reason (row.Goes edits us) = Unit {0}
Only reason (row.Faults f) = Unit {0}
Only reason (row.Blocked b) = Unit {0}

-- a turn that does, and ends no frame and no program
abbrev OnlyTurn : Type 0 → Turn → Type 0
OnlyTurn reason (turn.Goes jump takes pushed puts) = Unit {0}
OnlyTurn reason (turn.Faults f) = Unit {0}
OnlyTurn reason turn.Lacks = reason
OnlyTurn reason (turn.Returns v) = reason
OnlyTurn reason (turn.Finishes v) = reason

record OnlyAct (reason : Type 0) (a : Act) : Type 0 where
  only : (c : cells.Cell) → OnlyTurn reason (a.turn c)

module _ (reason : Type 0) where
  gives_only : (takes : ℕ) (value : Result ℤ Fault) → OnlyTurn reason (gives takes value)
  gives_only takes (Ok v) = tt
  gives_only takes (Err f) = tt

  put_only : (takes : ℕ) (value : Result ℤ Fault) → OnlyTurn reason (put takes value)
  put_only takes (Ok v) = tt
  put_only takes (Err f) = tt

  loaded_only : (takes : ℕ) (c : cells.Cell) → OnlyTurn reason (loaded takes c)
  loaded_only takes (cell.Int v) = tt
  loaded_only takes cell.Unset = tt
  loaded_only takes cell.Dead = tt

  stored_only : (takes : ℕ) (pushed : Option Operand) (v : ℤ) (c : cells.Cell)
      → OnlyTurn reason (stored takes pushed v c)
  stored_only takes pushed v (cell.Int w) = tt
  stored_only takes pushed v cell.Unset = tt
  stored_only takes pushed v cell.Dead = tt

  updated_only : (takes : ℕ) (operator : AtomicOperator) (side : Side) (v : ℤ) (c : cells.Cell)
      → OnlyTurn reason (updated takes operator side v c)
  updated_only takes operator side v (cell.Int w) = put_only takes (update operator side w v)
  updated_only takes operator side v cell.Unset = tt
  updated_only takes operator side v cell.Dead = tt

  used_only : (x : Operand) → OnlyTurn reason (used x)
  used_only (operand.Int v) = tt
  used_only operand.NoValue = tt

  jump_only : (b : Bool) (target : ℕ) → OnlyTurn reason (jump_if b target)
  jump_only true target = tt
  jump_only false target = tt

  on_operand_only : (x : Option Operand) (row : Operand → Act) → (x ≡ None → reason)
      → ((a : Operand) → OnlyAct reason (row a)) → OnlyAct reason (on_operand x row)
  on_operand_only None row n h = record { only = λ c. n refl }
  on_operand_only (Some a) row n h = h a

  on_int_only : (x : Option ℤ) (row : ℤ → Act) → (x ≡ None → reason) → ((a : ℤ) → OnlyAct reason (row a))
      → OnlyAct reason (on_int x row)
  on_int_only None row n h = record { only = λ c. n refl }
  on_int_only (Some a) row n h = h a

  on_ints_only : (x y : Option ℤ) (row : ℤ → ℤ → Act) → (x ≡ None → reason) → (y ≡ None → reason)
      → ((a b : ℤ) → OnlyAct reason (row a b)) → OnlyAct reason (on_ints x y row)
  on_ints_only None y row n m h = record { only = λ c. n refl }
  on_ints_only (Some a) None row n m h = record { only = λ c. m refl }
  on_ints_only (Some a) (Some b) row n m h = h a b

  at_index_only : (k : Option ℕ) (row : ℕ → Act) → ((n : ℕ) → OnlyAct reason (row n))
      → OnlyAct reason (at_index k row)
  at_index_only None row h = record { only = λ c. tt }
  at_index_only (Some n) row h = h n

  print_only : (text values : ℕ) (vs : Option (List ℤ)) → (vs ≡ None → reason) → OnlyAct reason (print text values vs)
  print_only text values None n = record { only = λ c. n refl }
  print_only text values (Some vs) n = record { only = λ c. tt }

  turn_only : (to : ℕ) (us : List Update) (t : Turn) → OnlyTurn reason t → Only reason (row_of to us t)
  turn_only to us (turn.Goes jump takes pushed puts) h = tt
  turn_only to us (turn.Faults f) h = tt
  turn_only to us turn.Lacks h = h
  turn_only to us (turn.Returns v) h = h
  turn_only to us (turn.Finishes v) h = h

  touch_only : (program : Raw) (c : Context) (t : cells.Cell → Turn) (x : Touch) (values : List Val)
      → ((y : cells.Cell) → OnlyTurn reason (t y)) → Only reason ((touch_row program c t x).row values)
  touch_only program c t touch.Nothing values h = turn_only (c.frame.next + 1) [] (t cell.Unset) (h cell.Unset)
  touch_only program c t (touch.Reads p index) values h =
      turn_only (c.frame.next + 1) [] (t (cell_in (first_of values))) (h (cell_in (first_of values)))
  touch_only program c t (touch.Writes p index) values h =
      turn_only (c.frame.next + 1) [] (t (cell_in (first_of values))) (h (cell_in (first_of values)))
  touch_only program c t (touch.Clears slot) values h =
      turn_only (c.frame.next + 1) (unsets (cells_of_slot program c slot)) (t cell.Unset) (h cell.Unset)
  touch_only program c t (touch.Prints text count) values h =
      turn_only (c.frame.next + 1) _ (t cell.Unset) (h cell.Unset)

first_there : (s : List Operand) → 1 ≤ length s → slice_get s 0 ≡ None → ⊥
first_there [] le e = omega (arith, le)
first_there (x ∷ s) le e = cc

act_only : (program : Raw) (slots : List Slot) (stack : Stack) (instr : Serial)
    → pops (i.Serial instr) ≤ length stack.top.frame.operands
    → OnlyAct (MayLack program stack (i.Serial instr)) (act program slots instr stack.top.frame.operands)
act_only program slots stack (serials.Constant value) le = record { only = λ c. tt }
act_only program slots stack serials.Duplicate le =
    on_operand_only ⊥ (slice_get stack.top.frame.operands 0) _ (first_there stack.top.frame.operands le)
    (λ a. record { only = λ c. tt })
act_only program slots stack serials.Pop le =
    on_operand_only ⊥ (slice_get stack.top.frame.operands 0) _ (first_there stack.top.frame.operands le)
    (λ a. record { only = λ c. tt })
act_only program slots stack serials.Use le =
    on_operand_only ⊥ (slice_get stack.top.frame.operands 0) _ (first_there stack.top.frame.operands le)
    (λ a. record { only = λ c. used_only ⊥ a })
act_only program slots stack serials.Nop le = record { only = λ c. tt }
act_only program slots stack (serials.Unary o) le =
    let s = stack.top.frame.operands in
    on_int_only (HasNoValue 1 s) (int_at 0 s) _ (no_int s 0 1 (omega arith) le)
    (λ a. record { only = λ c. gives_only (HasNoValue 1 s) 1 (operate_on_one o a) })
act_only program slots stack (serials.Binary o) le =
    let s = stack.top.frame.operands in
    on_ints_only (HasNoValue 2 s) (int_at 1 s) (int_at 0 s) _ (no_int s 1 2 (omega arith) le)
    (no_int s 0 2 (omega arith) le) (λ a b. record { only = λ c. gives_only (HasNoValue 2 s) 2 (operate o a b) })
act_only program slots stack (serials.Jump target) le = record { only = λ c. tt }
act_only program slots stack (serials.JumpIfZero target) le =
    let s = stack.top.frame.operands in
    on_int_only (HasNoValue 1 s) (int_at 0 s) _ (no_int s 0 1 (omega arith) le)
    (λ a. record { only = λ c. jump_only (HasNoValue 1 s) (int_eq a (pos 0)) target })
act_only program slots stack (serials.Load place) le =
    record { only = λ c. loaded_only (HasNoValue 0 stack.top.frame.operands) 0 c }
act_only program slots stack (serials.Store place keeps) le =
    let s = stack.top.frame.operands in
    on_int_only (HasNoValue 1 s) (int_at 0 s) _ (no_int s 0 1 (omega arith) le)
    (λ a. record { only = λ c. stored_only (HasNoValue 1 s) (left_by keeps) None a c })
act_only program slots stack (serials.LoadElement place) le =
    let s = stack.top.frame.operands in
    on_int_only (HasNoValue 1 s) (int_at 0 s) _ (no_int s 0 1 (omega arith) le)
    (λ a. at_index_only (HasNoValue 1 s) (index_in (cells_in program slots place) a) _
    (λ n. record { only = λ c. loaded_only (HasNoValue 1 s) 1 c }))
act_only program slots stack (serials.StoreElement place keeps) le =
    let s = stack.top.frame.operands in
    on_ints_only (HasNoValue 2 s) (int_at 1 s) (int_at 0 s) _ (no_int s 1 2 (omega arith) le)
    (no_int s 0 2 (omega arith) le)
    (λ a b. at_index_only (HasNoValue 2 s) (index_in (cells_in program slots place) a) _
    (λ n. record { only = λ c. stored_only (HasNoValue 2 s) 2 (kept keeps b) b c }))
act_only program slots stack (serials.Clear slot) le = record { only = λ c. tt }
act_only program slots stack (serials.Print text values) le =
    let s = stack.top.frame.operands in
    print_only (HasNoValue values s) text values (ints_on values s) (no_ints values s le)
act_only program slots stack (serials.Atomic o side place) le =
    let s = stack.top.frame.operands in
    on_int_only (HasNoValue 1 s) (int_at 0 s) _ (no_int s 0 1 (omega arith) le)
    (λ a. record { only = λ c. updated_only (HasNoValue 1 s) 1 o side a c })
act_only program slots stack (serials.AtomicElement o side place) le =
    let s = stack.top.frame.operands in
    on_ints_only (HasNoValue 2 s) (int_at 1 s) (int_at 0 s) _ (no_int s 1 2 (omega arith) le)
    (no_int s 0 2 (omega arith) le)
    (λ a b. at_index_only (HasNoValue 2 s) (index_in (cells_in program slots place) a) _
    (λ n. record { only = λ c. updated_only (HasNoValue 2 s) 2 o side b c }))

pub serial_only : (program : Raw) (stack : Stack) (instr : Serial) (values : List Val)
    → pops (i.Serial instr) ≤ length stack.top.frame.operands
    → Only (MayLack program stack (i.Serial instr)) ((serial_row program stack.top instr).row values)
serial_only program stack instr values le =
    let a = act program (slots_in program stack.top) instr stack.top.frame.operands in
    touch_only (MayLack program stack (i.Serial instr)) program stack.top a.turn a.touch values
    (act_only program (slots_in program stack.top) stack instr le).only
