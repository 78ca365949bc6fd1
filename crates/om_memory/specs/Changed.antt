-- What a change makes of a frame, a context, a stack, a control and a log that are changed in place.
use Rattle.std.specs.Prelude.{◌≡◌, ℕ, Bool, Option, None, List, [], ◌∷◌, drop, map}
use Rattle.om_code.specs.declared.frame.Operand.{Operand}
use Rattle.om_state.specs.declared.control.Home.{Home}
use Rattle.om_state.specs.declared.control.Construct.{Construct}
use Rattle.om_state.specs.declared.control.Frame as plain_frames
use Rattle.om_state.specs.declared.control.Context as plain_contexts
use Rattle.om_state.specs.declared.control.Control.TheVariants as plain
use Rattle.om_state.specs.declared.control.Edit.{Edit}
use Rattle.om_state.specs.Edits.{frame_at, context_at, frame_begun, value_given, context_ended, edited, changed_by}
use Rattle.om_state.specs.Edits.{changed}
use Rattle.om_memory.specs.declared.control.Frame.{Frame}
use Rattle.om_memory.specs.declared.control.Context.{Context}
use Rattle.om_memory.specs.declared.control.Stack.{Stack}
use Rattle.om_memory.specs.declared.control.Control.{Control}
use Rattle.om_memory.specs.declared.control.Inverse.{Inverse}
use Rattle.om_memory.specs.declared.control.Logged.{Logged}
use Rattle.om_memory.specs.Plain.{plain_frame, plain_context, stack_of, plain_held, plain_stack, plain_control}
use Rattle.om_memory.specs.Trails.{begun, past_of}

-- a frame at the first instruction of a body
abbrev pub first_frame : ℕ → ℕ → List Home → plain_frames.Frame
first_frame body ordinal homes = record { body = body; next = 0; ordinal = ordinal; operands = []; homes = homes }

-- A frame has gone to a place. So many operands were taken from it, and then the given one was pushed, if any.
abbrev pub HasGone : ℕ → ℕ → Option Operand → Frame → Frame → Type 0
HasGone to takes pushed old new = plain_frame new ≡ frame_at to takes pushed (plain_frame old)

-- a frame that a context can begin: it is at its first instruction, and numbered next
abbrev pub IsNext : Context → Frame → Type 0
IsNext c f = plain_frame f ≡ first_frame f.body c.frames f.homes

-- a context is what this makes of it
abbrev pub HasTurned : (plain_contexts.Context → plain_contexts.Context) → Context → Context → Type 0
HasTurned turn old new = plain_context new ≡ turn (plain_context old)

-- a context that has begun a frame, after the one before went to a place
abbrev pub begun_from : ℕ → ℕ → Frame → plain_contexts.Context → plain_contexts.Context
begun_from to takes f c = frame_begun f.body f.homes (context_at to takes None c)

-- a context whose running frame has ended: its caller runs again, if it has one, with this value pushed
abbrev pub frame_ended : Operand → plain_contexts.Context → plain_contexts.Context
frame_ended value c = value_given value c.callers c

-- a context that has entered a region
abbrev pub region_opened : Construct → plain_contexts.Context → plain_contexts.Context
region_opened construct c = record c { constructs = construct ∷ c.constructs }

-- a context that has left its innermost region
abbrev pub region_closed : plain_contexts.Context → plain_contexts.Context
region_closed c = record c { constructs = drop 1 c.constructs }

-- a context with this region in the place of its innermost one, or as its only one where it had none
abbrev pub region_replaced : Construct → plain_contexts.Context → plain_contexts.Context
region_replaced construct c = record c { constructs = construct ∷ drop 1 c.constructs }

-- a context has turned as an edit has it, on any stack
abbrev pub IsEdited : Edit → Context → Context → Type 0
IsEdited edit old new = (below : List plain_contexts.Context) → plain.Running (stack_of new below)
    ≡ edited edit (stack_of old below)

-- the running context of a stack has ended, and the next one runs
abbrev pub IsEnded : Stack → Stack → Type 0
IsEnded old new = plain.Running (plain_stack new) ≡ context_ended (map plain_held old.below.items)

-- a worker runs on with a stack, after an edit of it
abbrev pub RunsOn : Edit → Stack → Stack → Type 0
RunsOn edit old new = plain.Running (plain_stack new) ≡ edited edit (plain_stack old)

-- a control is what an edit makes of it
abbrev pub HasChanged : Edit → Control → Control → Type 0
HasChanged edit old new = plain_control new ≡ changed_by edit (plain_control old)

-- a control is what edits make of it, in turn
abbrev pub HasMade : List Edit → Control → Control → Type 0
HasMade edits old new = plain_control new ≡ changed edits (plain_control old)

-- a log with what takes one more edit back, and whether a change begins with it
abbrev pub logged : Inverse → Bool → List Logged → List Logged
logged inverse begins log = record { inverse = inverse; begins = begins } ∷ log

-- a log leads back to one control more, where a change began at it
abbrev pub IsNoted : Bool → List Logged → Control → List Logged → Control → Type 0
IsNoted begins log old more new = past_of more new ≡ begun begins old (past_of log old)
