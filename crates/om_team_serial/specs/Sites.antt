-- Where a worker takes a step.
use Rattle.std.specs.Prelude.{ℕ, ◌+◌, List, [], slice_get, unwrap_or}
use Rattle.om_code.specs.declared.raw.Raw.{Raw}
use Rattle.om_code.specs.declared.raw.Body.{Body}
use Rattle.om_code.specs.declared.raw.Slot.{Slot}
use Rattle.om_code.specs.declared.frame.Operand.{Operand}
use Rattle.om_code.specs.Places.{slots_of, line_at, no_body}
use Rattle.om_state.specs.declared.control.Stack.{Stack}
use Rattle.om_state.specs.declared.control.Context.{Context}
use Rattle.om_memory.specs.Plain.{plain_stack}
use Rattle.om_team_serial.specs.declared.here.Here.{Here}
use Rattle.om_team_serial.specs.declared.row.Launch.{Launch}

-- a worker of so many, which runs a stack of a program
pub record Site : Type 0 where
  pub program : Raw
  pub workers : ℕ
  pub worker : ℕ
  pub stack : Stack

abbrev pub site : Raw → ℕ → ℕ → Stack → Site
site program workers worker stack = record { program = program; workers = workers; worker = worker; stack = stack }

-- the site at which code stands
abbrev pub site_of : Here → Site
site_of h = site h.program.now h.workers h.worker (plain_stack h.stack.now)

-- the context that runs, its operands, and the place behind its instruction
abbrev pub context : Site → Context
context s = s.stack.top

abbrev pub operands : Site → List Operand
operands s = s.stack.top.frame.operands

abbrev pub next : Site → ℕ
next s = s.stack.top.frame.next + 1

-- the slots of the body that runs, and the line of its instruction
abbrev pub slots : Site → List Slot
slots s = slots_of s.program s.stack.top.frame.body

abbrev pub line : Site → ℕ
line s = line_at s.program s.stack.top.frame.body s.stack.top.frame.next

-- how an instruction that takes so many operands begins a body
abbrev pub launch : Site → ℕ → ℕ → Launch
launch s takes body = record { to = next s; takes = takes; body = body }

-- the body of a number; where there is none, one without code
abbrev pub body_of : Raw → ℕ → Body
body_of raw number = unwrap_or (slice_get raw.bodies number) no_body

-- the name of a lock, and the targets of a PICK
abbrev pub lock_of : Raw → ℕ → List ℕ
lock_of raw number = unwrap_or (slice_get raw.locks number) []

abbrev pub targets_of : Raw → ℕ → List ℕ
targets_of raw number = unwrap_or (slice_get raw.picks number) []
