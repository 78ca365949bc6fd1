-- Ints: what operands, cells and iterations are in the runs of a program whose constants are ints.
use Rattle.std.specs.Prelude.{ℕ, ◌<◌, ◌≤◌, ◌^◌, All}
use Rattle.om_foot.specs.declared.object.Obj.{Obj}
use Rattle.om_code.specs.declared.frame.Cell as cells
use Rattle.om_code.specs.declared.frame.Cell.TheVariants as cell
use Rattle.om_code.specs.declared.frame.Operand.{Operand}
use Rattle.om_code.specs.declared.frame.Operand.TheVariants as operand
use Rattle.om_code.specs.declared.instruction.Instr.{Instr}
use Rattle.om_code.specs.declared.instruction.Instr.TheVariants as i
use Rattle.om_code.specs.declared.instruction.Serial.TheVariants.{Constant}
use Rattle.om_code.specs.declared.raw.Body.{Body}
use Rattle.om_code.specs.declared.raw.Raw.{Raw}
use Rattle.om_state.specs.declared.control.Construct.{Construct}
use Rattle.om_state.specs.declared.control.Construct.TheVariants as construct
use Rattle.om_state.specs.declared.control.Context.{Context}
use Rattle.om_state.specs.declared.control.Control as controls
use Rattle.om_state.specs.declared.control.Control.TheVariants.{Running, Faulted}
use Rattle.om_state.specs.declared.control.Frame.{Frame}
use Rattle.om_state.specs.declared.control.Stack.{Stack}
use Rattle.om_state.specs.declared.control.Team.{Team}
use Rattle.om_state.specs.declared.value.Val.{Val}
use Rattle.om_state.specs.declared.value.Val.TheVariants as value
pub use Rattle.om_state.specs.OpenShares.{IsInt, ShareHasInts}
use Rattle.om_state.specs.State.{State}

-- ---- programs

abbrev pub HasIntConstant : Instr → Type 0
HasIntConstant (i.Serial (Constant value)) = IsInt value
HasIntConstant _ = Unit {0}

abbrev pub HasIntConstants : Body → Type 0
HasIntConstants body = All (λ line. HasIntConstant line.instruction) body.code

-- each constant and each initial value is an int: their type in the code has no other values
pub record IsOfInts (program : Raw) : Type 0 where
  pub constants : All HasIntConstants program.bodies
  pub globals : All (λ global. IsInt global.initial) program.globals

-- so few workers that each thread number is an int, and each size of a team
abbrev pub AreFew : ℕ → Type 0
AreFew workers = workers < 2 ^ 31

-- ---- states

-- an operand that is a value is an int
abbrev pub IsIntOperand : Operand → Type 0
IsIntOperand (operand.Int v) = IsInt v
IsIntOperand operand.NoValue = Unit {0}

-- a cell that holds a value holds an int
abbrev pub HoldsInt : cells.Cell → Type 0
HoldsInt (cell.Int v) = IsInt v
HoldsInt _ = Unit {0}

abbrev pub FrameHasInts : Frame → Type 0
FrameHasInts frame = All IsIntOperand frame.operands

abbrev pub ConstructHasInts : Construct → Type 0
ConstructHasInts (construct.Share share) = ShareHasInts share
ConstructHasInts _ = Unit {0}

-- a team whose size is an int, and so is the number of its thread
pub record IsSmall (team : Team) : Type 0 where
  pub number : team.number ≤ team.size
  pub size : AreFew team.size

-- the running frame, those that wait for it, the open regions, and the team
abbrev pub ContextHasInts : Context → Type 0
ContextHasInts context =
    FrameHasInts context.frame
    × All FrameHasInts context.callers
    × All ConstructHasInts context.constructs
    × IsSmall context.team

abbrev pub StackHasInts : Stack → Type 0
StackHasInts stack = ContextHasInts stack.top × All ContextHasInts stack.below

abbrev pub ControlHasInts : controls.Control → Type 0
ControlHasInts (Running stack) = StackHasInts stack
ControlHasInts (Faulted fault stack) = StackHasInts stack
ControlHasInts _ = Unit {0}

abbrev pub ValueHasInts : Val → Type 0
ValueHasInts (value.Control control) = ControlHasInts control
ValueHasInts (value.Cell c) = HoldsInt c
ValueHasInts _ = Unit {0}

-- a state in which operands are ints, variables hold ints, and so does each iteration that is still to come
abbrev pub HasInts : State → Type 0
HasInts s = (q : Obj) → ValueHasInts (s q)
