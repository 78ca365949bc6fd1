-- The plain control that one which is changed in place stands for: nothing that was taken is a part of it.
use Rattle.std.specs.Prelude.{List, map}
use Rattle.std.specs.declared.boxed.Box.{Box}
use Rattle.std.specs.declared.alloc.Global.{Global}
use Rattle.om_memory.specs.declared.control.Frame.{Frame}
use Rattle.om_memory.specs.declared.control.Context.{Context}
use Rattle.om_memory.specs.declared.control.Stack.{Stack}
use Rattle.om_memory.specs.declared.control.Control.{Control}
use Rattle.om_memory.specs.declared.control.Control.TheVariants.{Idle, Running, Faulted, Ended}
use Rattle.om_state.specs.declared.control.Frame as plain_frames
use Rattle.om_state.specs.declared.control.Context as plain_contexts
use Rattle.om_state.specs.declared.control.Stack as plain_stacks
use Rattle.om_state.specs.declared.control.Control as plain_controls
use Rattle.om_state.specs.declared.control.Control.TheVariants as plain

-- a frame: of its operands those that stand
abbrev pub plain_frame : Frame → plain_frames.Frame
plain_frame f = record
    { body = f.body; next = f.next; ordinal = f.ordinal; operands = f.operands.items; homes = f.homes }

abbrev pub plain_box : Box Frame Global → plain_frames.Frame
plain_box b = plain_frame b.value

-- a context: of its regions and waiting frames those that stand
abbrev pub plain_context : Context → plain_contexts.Context
plain_context c = record {
  task = c.task;
  kind = c.kind;
  team = c.team;
  phase = c.phase;
  births = c.births;
  regions = c.regions;
  frames = c.frames;
  group = c.group;
  constructs = c.constructs.items;
  frame = plain_frame c.frame.value;
  callers = map plain_box c.callers.items;
}

-- the plain stack of a context that is changed in place, and of what waits below it
abbrev pub stack_of : Context → List plain_contexts.Context → plain_stacks.Stack
stack_of c below = record { top = plain_context c; below = below }

abbrev pub plain_held : Box Context Global → plain_contexts.Context
plain_held b = plain_context b.value

-- a stack: of the contexts below those that stand
abbrev pub plain_stack : Stack → plain_stacks.Stack
plain_stack s = record { top = plain_context s.top.value; below = map plain_held s.below.items }

abbrev pub plain_control : Control → plain_controls.Control
plain_control Idle = plain.Idle
plain_control (Running s) = plain.Running (plain_stack s)
plain_control (Faulted fault s) = plain.Faulted fault (plain_stack s)
plain_control (Ended value) = plain.Ended value
