-- What a task begins with.
use Rattle.std.specs.Prelude.{ℕ, Option, List, []}
use Rattle.om_state.specs.declared.control.Home.{Home}
use Rattle.om_state.specs.declared.control.Frame.{Frame}
use Rattle.om_state.specs.declared.control.Team.{Team}
use Rattle.om_state.specs.declared.control.Kind.{Kind}
use Rattle.om_state.specs.declared.control.Context.{Context}

-- the frame with which a task begins on a body
abbrev pub first_frame : ℕ → List Home → Frame
first_frame body homes = record { body = body; next = 0; ordinal = 0; operands = []; homes = homes }

-- a task that begins in a phase of its team: it has counted that frame, and nothing else
abbrev pub new_context : Kind → ℕ → List ℕ → Team → Option (List ℕ) → Frame → Context
new_context kind phase task team group frame = record {
  task = task;
  kind = kind;
  team = team;
  phase = phase;
  births = 0;
  regions = 0;
  frames = 1;
  group = group;
  constructs = [];
  frame = frame;
  callers = [];
}
