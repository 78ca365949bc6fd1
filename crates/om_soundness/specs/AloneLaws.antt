-- What a worker that steps alone does by the rules of the machine: what its body means.
use Rattle.std.specs.Prelude.{◌≡◌, ℕ, suc, ◌≤◌, IsSome, ℤ, pos, Bool, true, false, Option, None, Some, List, [], ◌∷◌}
use Rattle.std.specs.Prelude.{IsSomeAnd, replicate, slice_get, unwrap_or, position}
use Rattle.om_foot.specs.declared.object.Obj.TheVariants as obj
use Rattle.om_code.specs.declared.frame.Cell.TheVariants as cell
use Rattle.om_code.specs.declared.frame.Fault.{Fault}
use Rattle.om_code.specs.declared.frame.Operand.{Operand}
use Rattle.om_code.specs.declared.frame.Operand.TheVariants as operand
use Rattle.om_code.specs.declared.raw.Body.{Body}
use Rattle.om_code.specs.declared.raw.Raw.{Raw}
use Rattle.om_code.specs.Frames as frames
use Rattle.om_code.specs.Frames.{FrameTurn}
use Rattle.om_code.specs.Validity.{IsKnown, IsValid}
use Rattle.om_state.specs.declared.control.Context.{Context}
use Rattle.om_state.specs.declared.control.Control.{Control}
use Rattle.om_state.specs.declared.control.Control.TheVariants.{Running, Faulted, Ended}
use Rattle.om_state.specs.declared.control.Frame as controls
use Rattle.om_state.specs.declared.control.Kind.TheVariants.{Initial}
use Rattle.om_state.specs.declared.control.Stack.{Stack}
use Rattle.om_state.specs.declared.value.Val.TheVariants as value
use Rattle.om_state.specs.Edits.{value_given}
use Rattle.om_state.specs.Rules.{replay}
use Rattle.om_state.specs.State.{State}
use Rattle.om_state.specs.Values.{count_in}
use Rattle.om_task.specs.Rules.{first_context, initial_at, rules_of, start_of}
use Rattle.om_scope_tree.specs.ResolvedTree.{ResolvedFunctionTree, ResolvedTree}
use Rattle.om_scope_tree.specs.Uses.{is_main_function}
use Rattle.om_lower_rules.specs.Bodies.{called_body, function_variables}
use Rattle.om_lower_rules.specs.Code.{IsCodeOf}
use Rattle.om_lower_rules.specs.MeaningLaws.{layout_of, source}
use Rattle.om_lower_rules.specs.Meaning as flows
use Rattle.om_lower_rules.specs.Meaning.{Flow, Failed, OutOfTurns}
use Rattle.om_lower_rules.specs.Running.{run, world_of}
use Rattle.om_lower_rules.specs.Serial.{AreSerialStatements}
use Rattle.om_lower_rules.specs.Worlds.{World}
use Rattle.om_soundness.specs.Alone.{Shows, Keeps, OwnsCells, dead, next_of, stack_at, stepped}

-- the initial task may end: no task of its team is unfinished
pub record CanFinish (c : Context) (s : State) : Type 0 where
  pub initial : c.kind ≡ Initial
  pub none : count_in (s (obj.Pending c.team.name c.phase)) ≡ pos 0

-- a frame waits for the value of the running one
pub record IsCalled (c : Context) : Type 0 where
  pub caller : controls.Frame
  pub callers : List controls.Frame
  pub waits : c.callers ≡ caller ∷ callers

-- ---- the steps of a worker alone, from a state in which it runs the top frame of a stack

module _ (program : Raw) (workers worker : ℕ) (stack : Stack) (s : State) where
  -- so many steps lead to this control and this world, and keep all that is apart
  abbrev pub Leads : (n : ℕ) → Control → World → Type 0
  Leads n control w =
      (t : State) × (stepped program workers worker n s ≡ Some t)
      × Shows program worker stack.top control w t × Keeps worker stack.top s t

  -- at most so many steps do
  abbrev pub LeadsSoon : (n : ℕ) → Control → World → Type 0
  LeadsSoon n control w = (m : ℕ) × (m ≤ n) × Leads m control w

  -- what n instructions make of a frame that runs alone, n steps make of the state that shows it
  abbrev pub Follows : (n : ℕ) → FrameTurn → Type 0
  Follows n (frames.Onward f) = Leads n (Running (stack_at stack f.place f.operands)) (world_of f)
  Follows n (frames.Faulted x f) = LeadsSoon n (Faulted x (stack_at stack f.place f.operands)) (world_of f)
  Follows n (frames.Finished v f) = CanFinish stack.top s → LeadsSoon n (Ended v) (world_of f)
  Follows n (frames.Returned v f) =
      IsCalled stack.top →
      LeadsSoon n (Running (record stack { top = value_given v stack.top.callers stack.top })) (dead (world_of f))
  Follows n frames.Stuck = Unit {0}

-- The rules of the machine, alone on one frame, are the frame machine: a state that shows a frame goes where that
-- frame goes.
abbrev pub FramesFollow : Type 0
FramesFollow =
    (program : Raw) (body : Body) (workers worker : ℕ) (stack : Stack) (s : State) (f : frames.Frame) →
    slice_get program.bodies stack.top.frame.body ≡ Some body → IsKnown program body → OwnsCells stack.top →
    Shows program worker stack.top (Running (stack_at stack f.place f.operands)) (world_of f) s →
    (n : ℕ) → Follows program workers worker stack s n (run program body n f)

-- ---- a function that a worker runs alone

-- how a function may end: `main` ends the program, another one has a frame that waits
abbrev pub MayEnd : (is_main : Bool) → Context → State → Type 0
MayEnd true c s = CanFinish c s
MayEnd false c s = IsCalled c

abbrev pub operand_of : Option ℤ → Operand
operand_of None = operand.NoValue
operand_of (Some v) = operand.Int v

-- the control behind its end, with a value or without one, which for `main` is 0 (C17 5.1.2.2.3p1)
abbrev pub control_behind : (is_main : Bool) → Option ℤ → Stack → Control
control_behind true v stack = Ended (unwrap_or v (pos 0))
control_behind false v stack =
    Running (record stack { top = value_given (operand_of v) stack.top.callers stack.top })

abbrev pub world_behind : (is_main : Bool) → World → World
world_behind true w = w
world_behind false w = dead w

-- from a state, a worker alone does what this means
pub record Does (program : Raw) (workers worker : ℕ) (stack : Stack) (s : State) (is_main : Bool)
    (means : ℕ → Flow) : Type 0 where
  -- where the meaning ends, it ends so: with the value, the globals and the output
  pub ends : MayEnd is_main stack.top s → (n : ℕ) (v : Option ℤ) (u : World) → means n ≡ flows.Returned v u →
      (m : ℕ) × Leads program workers worker stack s m (control_behind is_main v stack) (world_behind is_main u)
  -- where the meaning faults, it faults so
  pub faults : (n : ℕ) (x : Fault) (u : World) → means n ≡ Failed x u →
      (m : ℕ) × (at : ℕ) × (operands : List Operand)
      × Leads program workers worker stack s m (Faulted x (stack_at stack at operands)) u
  -- where loops are out of n turns, it goes on for n steps
  pub goes_on : (n : ℕ) → means n ≡ OutOfTurns →
      (at : ℕ) × (operands : List Operand) × (u : World)
      × Leads program workers worker stack s n (Running (stack_at stack at operands)) u

-- A worker that begins a function alone, without calls and directives and in a frame of its own, does what the
-- function means.
abbrev pub FunctionsRun : Type 0
FunctionsRun =
    (tree : ResolvedTree) (raw : Raw) → IsCodeOf tree raw → IsValid raw →
    (k : ℕ) (f : ResolvedFunctionTree) → slice_get tree.functions k ≡ Some f → AreSerialStatements f.body →
    (workers worker : ℕ) (stack : Stack) (s : State) (w : World) →
    stack.top.frame.body ≡ called_body tree.functions k → OwnsCells stack.top →
    Shows raw worker stack.top (Running (stack_at stack 0 [])) w s →
    IsSomeAnd (slice_get raw.bodies (called_body tree.functions k)) (λ body.
    Does raw workers worker stack s (is_main_function f)
    (λ n. source (layout_of raw body (function_variables f)) f.body n w))

-- ---- a whole program

abbrev pub first_stack : Raw → Stack
first_stack program = record { top = first_context program; below = [] }

-- globals have their initial values (C17 6.7.9p10), and nothing is printed
abbrev pub first_world : Raw → World
first_world program = record {
  slots = λ slot index. cell.Unset;
  globals = λ variable index. cell.Int (initial_at program variable index);
  output = [];
}

-- Each program starts in a state in which worker 0 runs `main` alone, in a fresh frame.
abbrev pub ProgramsStart : Type 0
ProgramsStart =
    (program : Raw) (workers : ℕ) → IsValid program →
    OwnsCells (first_context program)
    × Shows program 0 (first_context program) (Running (stack_at (first_stack program) 0 [])) (first_world program)
    (start_of program workers)
    × CanFinish (first_context program) (start_of program workers)

module _ (program : Raw) (workers : ℕ) where
  -- the replay of n steps of worker 0
  abbrev pub alone : ℕ → Option State
  alone n = replay (rules_of program workers) (replicate n (next_of 0))

  -- so many steps of it lead to this control and this world
  abbrev pub LeadsFromStart : ℕ → Control → World → Type 0
  LeadsFromStart n control w = Leads program workers 0 (first_stack program) (start_of program workers) n control w

-- the steps of worker 0 do what this means, and nothing else
pub record Runs (program : Raw) (workers : ℕ) (means : ℕ → Flow) : Type 0 where
  -- where the meaning ends, the program ends so: with the value, where none is 0, the globals and the output
  pub ends : (n : ℕ) (v : Option ℤ) (u : World) → means n ≡ flows.Returned v u →
      (m : ℕ) × LeadsFromStart program workers m (Ended (unwrap_or v (pos 0))) u
  -- where the meaning faults, it faults so
  pub faults : (n : ℕ) (x : Fault) (u : World) → means n ≡ Failed x u →
      (m : ℕ) × (stack : Stack) × LeadsFromStart program workers m (Faulted x stack) u
  -- where loops are out of n turns, it goes on for n steps
  pub goes_on : (n : ℕ) → means n ≡ OutOfTurns →
      (stack : Stack) × (u : World) × LeadsFromStart program workers n (Running stack) u
  -- where it has ended after n steps, the meaning with n turns ends so
  pub only_ends : (n : ℕ) (v : ℤ) (s : State) → alone program workers n ≡ Some s →
      s (obj.Control 0) ≡ value.Control (Ended v) →
      (r : Option ℤ) × (u : World) × (means n ≡ flows.Returned r u) × (v ≡ unwrap_or r (pos 0))
      × Shows program 0 (first_context program) (Ended v) u s
  -- where it has faulted after n steps, the meaning with n turns faults so
  pub only_faults : (n : ℕ) (x : Fault) (stack : Stack) (s : State) → alone program workers n ≡ Some s →
      s (obj.Control 0) ≡ value.Control (Faulted x stack) →
      (u : World) × (means n ≡ Failed x u) × Shows program 0 (first_context program) (Faulted x stack) u s
  -- while it runs it is never blocked, and lacks nothing
  pub never_stuck : (n : ℕ) (stack : Stack) (s : State) → alone program workers n ≡ Some s →
      s (obj.Control 0) ≡ value.Control (Running stack) → IsSome (alone program workers (suc n))

-- A program whose `main` has no calls and directives, stepped by its one worker from its start, does what `main`
-- means.
abbrev pub ProgramsRun : Type 0
ProgramsRun =
    (tree : ResolvedTree) (raw : Raw) (workers : ℕ) → IsCodeOf tree raw → IsValid raw →
    (k : ℕ) (f : ResolvedFunctionTree) → position is_main_function tree.functions ≡ Some k →
    slice_get tree.functions k ≡ Some f → AreSerialStatements f.body →
    IsSomeAnd (slice_get raw.bodies raw.main) (λ body.
    Runs raw workers (λ n. source (layout_of raw body (function_variables f)) f.body n (first_world raw)))
