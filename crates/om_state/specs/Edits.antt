-- What edits make of a control.
use Rattle.std.specs.Prelude.{ℕ, ◌+◌, ◌<◌, ◌^◌, Option, None, option_to_list, List, [], ◌∷◌, ◌++◌, drop}
use Rattle.om_code.specs.declared.frame.Operand.{Operand}
use Rattle.om_state.specs.declared.control.Home.{Home}
use Rattle.om_state.specs.declared.control.Frame.{Frame}
use Rattle.om_state.specs.declared.control.Context.{Context}
use Rattle.om_state.specs.declared.control.Construct.{Construct}
use Rattle.om_state.specs.declared.control.Stack.{Stack}
use Rattle.om_state.specs.declared.control.Control.{Control}
use Rattle.om_state.specs.declared.control.Control.TheVariants.{Idle, Running, Faulted, Ended}
use Rattle.om_state.specs.declared.control.Edit.{Edit}
use Rattle.om_state.specs.declared.control.Edit.TheVariants.{Go, BeginFrame, EndFrame, BeginContext, EndContext, Open}
use Rattle.om_state.specs.declared.control.Edit.TheVariants.{Close, Replace, CountBirth, CountRegion, CountPhase, Fail}
use Rattle.om_state.specs.declared.control.Edit.TheVariants.{End}

-- a frame at a place, with so many operands taken and then one pushed
abbrev pub frame_at : ℕ → ℕ → Option Operand → Frame → Frame
frame_at to takes pushed frame = record frame {
  next = to;
  operands = option_to_list pushed
      ++ drop takes frame.operands;
}

abbrev pub context_at : ℕ → ℕ → Option Operand → Context → Context
context_at to takes pushed context = record context { frame = frame_at to takes pushed context.frame }

-- a context that has begun a frame of this body, for which the one before waits
abbrev pub frame_begun : ℕ → List Home → Context → Context
frame_begun body homes context = record context {
  frames = context.frames + 1;
  frame = record
      { body = body; next = 0; ordinal = context.frames; operands = []; homes = homes };
  callers = context.frame
      ∷ context.callers;
}

-- a context whose running frame has ended, with a value for the one that waits for it
abbrev pub value_given : Operand → List Frame → Context → Context
value_given value (frame ∷ callers) context = record context
    { frame = record frame { operands = value ∷ frame.operands }; callers = callers }
value_given value [] context = context

-- a stack on which a context has begun
abbrev pub context_begun : Context → Stack → Stack
context_begun context stack = record { top = context; below = stack.top ∷ stack.below }

-- the control after a stack's running context has ended
abbrev pub context_ended : List Context → Control
context_ended (top ∷ below) = Running (record { top = top; below = below })
context_ended [] = Idle

-- a stack with other regions open in its running context
abbrev pub in_constructs : List Construct → Stack → Control
in_constructs constructs stack = Running (record stack { top = record stack.top { constructs = constructs } })

-- the control after an edit of a stack that runs
abbrev pub edited : Edit → Stack → Control
edited (Go to takes pushed) stack = Running (record stack { top = context_at to takes pushed stack.top })
edited (BeginFrame to takes body homes) stack = Running
    (record stack { top = frame_begun body homes (context_at to takes None stack.top) })
edited (EndFrame value) stack = Running (record stack { top = value_given value stack.top.callers stack.top })
edited (BeginContext context) stack = Running (context_begun context stack)
edited EndContext stack = context_ended stack.below
edited (Open construct) stack = in_constructs (construct ∷ stack.top.constructs) stack
edited Close stack = in_constructs (drop 1 stack.top.constructs) stack
edited (Replace construct) stack = in_constructs (construct ∷ drop 1 stack.top.constructs) stack
edited CountBirth stack = Running (record stack { top = record stack.top { births = stack.top.births + 1 } })
edited CountRegion stack = Running (record stack { top = record stack.top { regions = stack.top.regions + 1 } })
edited CountPhase stack = Running (record stack { top = record stack.top { phase = stack.top.phase + 1 } })
edited (Fail fault) stack = Faulted fault stack
edited (End value) stack = Ended value

-- the control after an edit: one that doesn't run stays
abbrev pub changed_by : Edit → Control → Control
changed_by edit (Running stack) = edited edit stack
changed_by edit Idle = Idle
changed_by edit (Faulted fault stack) = Faulted fault stack
changed_by edit (Ended value) = Ended value

-- the control after edits, in their order
abbrev pub changed : List Edit → Control → Control
changed [] control = control
changed (edit ∷ edits) control = changed edits (changed_by edit control)

-- the number that an edit counts up has 64 bits
abbrev pub Counts : Edit → Stack → Type 0
Counts (BeginFrame to takes body homes) stack = stack.top.frames + 1 < 2 ^ 64
Counts CountBirth stack = stack.top.births + 1 < 2 ^ 64
Counts CountRegion stack = stack.top.regions + 1 < 2 ^ 64
Counts CountPhase stack = stack.top.phase + 1 < 2 ^ 64
Counts _ stack = Unit {0}

abbrev pub HasRoom : Edit → Control → Type 0
HasRoom edit (Running stack) = Counts edit stack
HasRoom edit _ = Unit {0}

abbrev pub HaveRoom : List Edit → Control → Type 0
HaveRoom [] control = Unit {0}
HaveRoom (edit ∷ edits) control = HasRoom edit control × HaveRoom edits (changed_by edit control)
