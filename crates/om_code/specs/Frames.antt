-- The frame machine: what each serial instruction touches, and what it makes of its frame.
use Rattle.std.specs.Prelude.{◌≡◌, ◌≤◌, ◌<◌, IsSome, ℕ, ◌+◌, ℤ, pos, negsuc, Bool, true, false, ◌&&◌, nat_lt, nat_eq}
use Rattle.std.specs.Prelude.{Option, Some, None, option_map, unwrap_or, Result, Ok, Err, List, [], ◌∷◌, ◌++◌, drop}
use Rattle.std.specs.Prelude.{length, slice_get, option_to_list, Contains, if◌then◌else◌}
use Rattle.std.specs.Ordering.{int_eq}
use Rattle.om_code.specs.declared.instruction.Instr.{Instr}
use Rattle.om_code.specs.declared.instruction.Instr.TheVariants as i
use Rattle.om_code.specs.declared.instruction.Serial.{Serial}
use Rattle.om_code.specs.declared.instruction.Function.{Function}
use Rattle.om_code.specs.declared.instruction.Function.TheVariants as calls
use Rattle.om_code.specs.declared.instruction.Serial.TheVariants as serials
use Rattle.om_code.specs.declared.instruction.Place.{Place}
use Rattle.om_code.specs.declared.instruction.Place.TheVariants as place
use Rattle.om_code.specs.declared.instruction.UnaryOperator.{UnaryOperator}
use Rattle.om_code.specs.declared.instruction.BinaryOperator.{BinaryOperator}
use Rattle.om_code.specs.declared.instruction.AtomicOperator.{AtomicOperator}
use Rattle.om_code.specs.declared.instruction.Side.{Side}
use Rattle.om_code.specs.declared.raw.Slot.{Slot}
use Rattle.om_code.specs.declared.raw.Line.{Line}
use Rattle.om_code.specs.declared.raw.Body.{Body}
use Rattle.om_code.specs.declared.raw.Raw.{Raw}
use Rattle.om_code.specs.declared.frame.Cell.{Cell}
use Rattle.om_code.specs.declared.frame.Cell.TheVariants as cell
use Rattle.om_code.specs.declared.frame.Fault.{Fault}
use Rattle.om_code.specs.declared.frame.Fault.TheVariants as fault
use Rattle.om_code.specs.declared.frame.Operand.{Operand}
use Rattle.om_code.specs.declared.frame.Operand.TheVariants as operand
use Rattle.om_code.specs.declared.act.Act as acts
use Rattle.om_code.specs.declared.act.Act.TheVariants.{Turns, Loads, Stores, Updates}
use Rattle.om_code.specs.declared.act.Act.TheVariants as acted_by
use Rattle.om_code.specs.declared.act.Turn.{Turn}
use Rattle.om_code.specs.declared.act.Turn.TheVariants.{Goes, Returns, Finishes, Faults, Lacks}
use Rattle.om_code.specs.Ways.{pops, pushes, successors}
use Rattle.om_code.specs.Validity.{IsKnownPlace, IsKnownText}
use Rattle.om_code.specs.Arithmetic.{operate, operate_on_one, update}
use Rattle.om_code.specs.Printing.{printed, ints_on}

-- what an instruction touches beside its frame's place and operands
pub data Touch : Type 0 where
  Nothing : Touch
  -- the cell of a variable at this index is read; a scalar's index is 0
  Reads : (place : Place) (index : ℕ) → Touch
  -- the cell of a variable at this index is written, and what it held counts
  Writes : (place : Place) (index : ℕ) → Touch
  -- each cell of the slot of this number becomes unset
  Clears : (slot : ℕ) → Touch
  -- the text of this number is appended to the output, with so many values from the top
  Prints : (text : ℕ) (values : ℕ) → Touch

-- what an instruction touches, and its turn by what stands in the cell that it reads or writes
pub record Act : Type 0 where
  pub touch : Touch
  pub turn : Cell → Turn

-- a turn that the instruction and its operands alone decide
abbrev pub decided : Turn → Act
decided t = record { touch = Nothing; turn = λ _. t }

abbrev pub reads : Place → ℕ → (Cell → Turn) → Act
reads place index t = record { touch = Reads place index; turn = t }

abbrev pub writes : Place → ℕ → (Cell → Turn) → Act
writes place index t = record { touch = Writes place index; turn = t }

-- the int so far below the top operand
abbrev pub int_in : Option Operand → Option ℤ
int_in (Some (operand.Int value)) = Some value
int_in _ = None

abbrev pub int_at : ℕ → List Operand → Option ℤ
int_at depth operands = int_in (slice_get operands depth)

-- an act on the top operand, on its int, and on the ints of the second operand and the top one
abbrev pub on_operand : Option Operand → (Operand → Act) → Act
on_operand None row = decided Lacks
on_operand (Some x) row = row x

abbrev pub on_int : Option ℤ → (ℤ → Act) → Act
on_int None row = decided Lacks
on_int (Some a) row = row a

abbrev pub on_ints : Option ℤ → Option ℤ → (ℤ → ℤ → Act) → Act
on_ints (Some a) (Some b) row = row a b
on_ints _ _ row = decided Lacks

-- to the next instruction, with so many operands taken and then one pushed
abbrev pub goes : ℕ → Option Operand → Turn
goes takes pushed = Goes None takes pushed None

-- an operator's value is pushed, or its fault is met
abbrev pub gives : ℕ → Result ℤ Fault → Turn
gives takes (Ok value) = goes takes (Some (operand.Int value))
gives takes (Err f) = Faults f

-- C17 6.3.2.1p2 and 6.2.4p2: a cell is read that holds a value and lives
abbrev pub loaded : ℕ → Cell → Turn
loaded takes (cell.Int value) = goes takes (Some (operand.Int value))
loaded takes cell.Unset = Faults fault.Unset
loaded takes cell.Dead = Faults fault.Dead

-- C17 6.5.16: a value is put into a cell that lives
abbrev pub stored : ℕ → Option Operand → ℤ → Cell → Turn
stored takes pushed value cell.Dead = Faults fault.Dead
stored takes pushed value _ = Goes None takes pushed (Some value)

-- OpenMP 5.2, 15.8.4: the old value is read and the new one put, in one step
abbrev pub put : ℕ → Result ℤ Fault → Turn
put takes (Ok value) = Goes None takes None (Some value)
put takes (Err f) = Faults f

abbrev pub updated : ℕ → AtomicOperator → Side → ℤ → Cell → Turn
updated takes operator side other (cell.Int old) = put takes (update operator side old other)
updated takes operator side other cell.Unset = Faults fault.Unset
updated takes operator side other cell.Dead = Faults fault.Dead

-- what is touched, and what comes of it, where an instruction does this
abbrev pub meaning : acts.Act → Act
meaning (Turns t) = decided t
meaning (Loads place index takes) = reads place index (loaded takes)
meaning (Stores place index takes pushed value) = writes place index (stored takes pushed value)
meaning (Updates place index takes operator side operand) = writes place index (updated takes operator side operand)
meaning (acted_by.Clears slot) = record { touch = Clears slot; turn = λ _. goes 0 None }
meaning (acted_by.Prints text values) = record { touch = Prints text values; turn = λ _. goes values None }

-- how many cells a variable has; a scalar has one
abbrev pub cells_in : Raw → List Slot → Place → ℕ
cells_in raw slots (place.Global number) =
    unwrap_or (option_map (λ global. unwrap_or global.length 1) (slice_get raw.globals number)) 0
cells_in raw slots (place.Slot number) = unwrap_or (option_map (λ slot. slot.cells) (slice_get slots number)) 0

-- C17 6.5.6p8: an index lies inside its array
abbrev pub index_in : ℕ → ℤ → Option ℕ
index_in cells (pos n) = if nat_lt n cells then Some n else None
index_in cells (negsuc n) = None

abbrev pub at_index : Option ℕ → (ℕ → Act) → Act
at_index None row = decided (Faults fault.Index)
at_index (Some index) row = row index

-- an assignment gives its value where that is kept: on the stack it stays, or it is pushed again
abbrev pub left_by : Bool → ℕ
left_by true = 0
left_by false = 1

abbrev pub kept : Bool → ℤ → Option Operand
kept true value = Some (operand.Int value)
kept false value = None

-- C17 6.9.1p12: a call's value is used
abbrev pub used : Operand → Turn
used (operand.Int value) = goes 0 None
used operand.NoValue = Faults fault.NoValue

-- JZ jumps on 0
abbrev pub jump_if : Bool → ℕ → Turn
jump_if true target = Goes (Some target) 1 None None
jump_if false target = goes 1 None

-- the rows that need operands; the first of two operands lies below the second
abbrev pub duplicate : List Operand → Act
duplicate s = on_operand (slice_get s 0) (λ x. decided (goes 0 (Some x)))

abbrev pub pop : List Operand → Act
pop s = on_operand (slice_get s 0) (λ x. decided (goes 1 None))

abbrev pub unary : UnaryOperator → List Operand → Act
unary operator s = on_int (int_at 0 s) (λ a. decided (gives 1 (operate_on_one operator a)))

abbrev pub binary : BinaryOperator → List Operand → Act
binary operator s = on_ints (int_at 1 s) (int_at 0 s) (λ a b. decided (gives 2 (operate operator a b)))

abbrev pub jump_if_zero : ℕ → List Operand → Act
jump_if_zero target s = on_int (int_at 0 s) (λ a. decided (jump_if (int_eq a (pos 0)) target))

abbrev pub use_value : List Operand → Act
use_value s = on_operand (slice_get s 0) (λ x. decided (used x))

abbrev pub store : Place → Bool → List Operand → Act
store place keeps s = on_int (int_at 0 s) (λ a. writes place 0 (stored (left_by keeps) None a))

abbrev pub update_scalar : Place → AtomicOperator → Side → List Operand → Act
update_scalar place operator side s = on_int (int_at 0 s) (λ a. writes place 0 (updated 1 operator side a))

abbrev pub return_value : List Operand → Act
return_value s = on_int (int_at 0 s) (λ a. decided (Returns (operand.Int a)))

-- the rows on an element: its index lies below the other operand
abbrev pub load_element : Place → ℕ → List Operand → Act
load_element place cells s =
    on_int (int_at 0 s) (λ n. at_index (index_in cells n) (λ k. reads place k (loaded 1)))

abbrev pub store_element : Place → ℕ → Bool → List Operand → Act
store_element place cells keeps s =
    on_ints (int_at 1 s) (int_at 0 s) (λ n a. at_index (index_in cells n) (λ k.
    writes place k (stored 2 (kept keeps a) a)))

abbrev pub update_element : Place → ℕ → AtomicOperator → Side → List Operand → Act
update_element place cells operator side s =
    on_ints (int_at 1 s) (int_at 0 s) (λ n a. at_index (index_in cells n) (λ k.
    writes place k (updated 2 operator side a)))

abbrev pub print : ℕ → ℕ → Option (List ℤ) → Act
print text values None = decided Lacks
print text values (Some vs) = record { touch = Prints text values; turn = λ _. goes values None }

abbrev pub finish : Bool → List Operand → Act
finish true s = on_int (int_at 0 s) (λ a. decided (Finishes a))
finish false s = decided (Finishes (pos 0))

-- the table of the serial instructions. Operands stand with the top first
abbrev pub act : Raw → List Slot → Serial → List Operand → Act
act raw slots (serials.Constant value) s = decided (goes 0 (Some (operand.Int value)))
act raw slots serials.Duplicate s = duplicate s
act raw slots serials.Pop s = pop s
act raw slots serials.Nop s = decided (goes 0 None)
act raw slots (serials.Unary operator) s = unary operator s
act raw slots (serials.Binary operator) s = binary operator s
act raw slots (serials.Jump target) s = decided (Goes (Some target) 0 None None)
act raw slots (serials.JumpIfZero target) s = jump_if_zero target s
act raw slots serials.Use s = use_value s
act raw slots (serials.Load place) s = reads place 0 (loaded 0)
act raw slots (serials.Store place keeps) s = store place keeps s
act raw slots (serials.LoadElement place) s = load_element place (cells_in raw slots place) s
act raw slots (serials.StoreElement place keeps) s = store_element place (cells_in raw slots place) keeps s
act raw slots (serials.Clear slot) s = record { touch = Clears slot; turn = λ _. goes 0 None }
act raw slots (serials.Print text values) s = print text values (ints_on values s)
act raw slots (serials.Atomic operator side place) s = update_scalar place operator side s
act raw slots (serials.AtomicElement operator side place) s = update_element place (cells_in raw slots place) operator side s

-- of instructions of functions a frame alone ends by a return, or with the program
abbrev pub ending : Function → List Operand → Act
ending (calls.Call body values) s = decided Lacks
ending calls.Return s = return_value s
ending calls.ReturnNothing s = decided (Returns operand.NoValue)
ending (calls.Finish has_value) s = finish has_value s

-- the act of an instruction: those of the other families need more than a frame
abbrev pub act_at : Raw → List Slot → Instr → List Operand → Act
act_at raw slots (i.Serial x) s = act raw slots x s
act_at raw slots (i.Function x) s = ending x s
act_at raw slots (i.Team x) s = decided Lacks
act_at raw slots (i.Sharing x) s = decided Lacks
act_at raw slots (i.Region x) s = decided Lacks
act_at raw slots (i.Task x) s = decided Lacks

-- what an act touches exists: a variable, a slot, or a text whose values are on the stack
abbrev pub IsThere : Raw → List Slot → List Operand → Touch → Type 0
IsThere raw slots s Nothing = Unit {0}
IsThere raw slots s (Reads place index) = IsKnownPlace raw.globals slots place
IsThere raw slots s (Writes place index) = IsKnownPlace raw.globals slots place
IsThere raw slots s (Clears slot) = slot < length slots
IsThere raw slots s (Prints text values) = IsKnownText raw.texts text values × IsSome (ints_on values s)

-- a turn that goes on keeps a frame on a way of its body: it takes no more than the instruction pops, it leaves what
-- the instruction pushes, and it leads to a place where the instruction can go on
abbrev pub IsRight : Instr → Turn → Type 0
IsRight instr (Goes jump takes pushed puts) =
    (takes ≤ pops instr)
    × (pops instr + length (option_to_list pushed) ≡ takes + pushes instr)
    × ((picks : List (List ℕ)) (at : ℕ) → Contains (successors picks at instr) (unwrap_or jump (at + 1)))
IsRight instr _ = Unit {0}

-- one frame with all that it can touch: cells by the number of their variable and their index
pub record Frame : Type 0 where
  pub place : ℕ
  pub operands : List Operand
  pub slots : ℕ → ℕ → Cell
  pub globals : ℕ → ℕ → Cell
  pub output : List ℕ

-- what an instruction leaves: the frame that goes on, or the last one and why it ended; stuck where an operand or
-- the instruction is missing, or where the instruction has no row here
pub data FrameTurn : Type 0 where
  Onward : (frame : Frame) → FrameTurn
  Returned : (value : Operand) (frame : Frame) → FrameTurn
  Finished : (value : ℤ) (frame : Frame) → FrameTurn
  Faulted : (fault : Fault) (frame : Frame) → FrameTurn
  Stuck : FrameTurn

-- the cell of a place and index, and the frame with another one there
abbrev pub cell_at : Frame → Place → ℕ → Cell
cell_at f (place.Global number) index = f.globals number index
cell_at f (place.Slot number) index = f.slots number index

abbrev pub with_cell : (ℕ → ℕ → Cell) → ℕ → ℕ → Cell → ℕ → ℕ → Cell
with_cell cells number index new n k = if nat_eq n number && nat_eq k index then new else cells n k

abbrev pub put_at : Frame → Place → ℕ → Cell → Frame
put_at f (place.Global number) index new = record f { globals = with_cell f.globals number index new }
put_at f (place.Slot number) index new = record f { slots = with_cell f.slots number index new }

-- what stands where an instruction touches
abbrev pub content : Frame → Touch → Cell
content f (Reads place index) = cell_at f place index
content f (Writes place index) = cell_at f place index
content f _ = cell.Unset

-- the bytes that PRINT appends to the output
abbrev pub print_bytes : Raw → ℕ → ℕ → List Operand → List ℕ
print_bytes raw text values s = printed (unwrap_or (slice_get raw.texts text) []) (unwrap_or (ints_on values s) [])

-- the frame with what an instruction changes beside place and operands: a put, a cleared slot, or more output
abbrev pub changed : Raw → Touch → Option ℤ → Frame → Frame
changed raw (Writes place index) (Some value) f = put_at f place index (cell.Int value)
changed raw (Clears slot) puts f = record f { slots = λ n k. if nat_eq n slot then cell.Unset else f.slots n k }
changed raw (Prints text values) puts f = record f { output = f.output ++ print_bytes raw text values f.operands }
changed raw _ puts f = f

-- operands with some taken and then one pushed
abbrev pub moved : ℕ → Option Operand → List Operand → List Operand
moved takes None s = drop takes s
moved takes (Some x) s = x ∷ drop takes s

abbrev pub turned : Raw → Frame → Touch → Turn → FrameTurn
turned raw f touch (Goes jump takes pushed puts) = Onward (record (changed raw touch puts f) {
  place = unwrap_or jump (f.place + 1);
  operands = moved takes pushed f.operands;
})
turned raw f touch (Returns value) = Returned value f
turned raw f touch (Finishes value) = Finished value f
turned raw f touch (Faults f') = Faulted f' f
turned raw f touch Lacks = Stuck

abbrev pub acted : Raw → Frame → Act → FrameTurn
acted raw f a = turned raw f a.touch (a.turn (content f a.touch))

abbrev pub turn_at : Raw → Body → Frame → Option Line → FrameTurn
turn_at raw body f None = Stuck
turn_at raw body f (Some line) = acted raw f (act_at raw body.slots line.instruction f.operands)

-- one instruction of a body, on one frame alone
abbrev pub frame_turn : Raw → Body → Frame → FrameTurn
frame_turn raw body f = turn_at raw body f (slice_get body.code f.place)
