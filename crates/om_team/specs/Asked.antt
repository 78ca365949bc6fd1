-- What a choice of a worker asks by its control: what it names, and what comes of the values there. There is none
-- where the row is one of tasks.
use Rattle.std.specs.Prelude.{ℕ, Option, None, Some, option_map, List, ◌∷◌}
use Rattle.om_foot.specs.declared.footprint.Access.{Access}
use Rattle.om_foot.specs.declared.object.Obj.TheVariants as obj
use Rattle.om_code.specs.declared.instruction.Instr.{Instr}
use Rattle.om_code.specs.declared.raw.Raw.{Raw}
use Rattle.om_code.specs.Places.{instruction_at}
use Rattle.om_state.specs.declared.control.Control as controls
use Rattle.om_state.specs.declared.control.Control.TheVariants.{Idle, Running, Faulted, Ended}
use Rattle.om_state.specs.declared.step.Label.{Label}
use Rattle.om_state.specs.declared.step.Choice.{Choice}
use Rattle.om_state.specs.declared.step.Choice.TheVariants.{Next, Start}
use Rattle.om_state.specs.declared.step.Blocked.TheVariants as blocked
use Rattle.om_state.specs.Rules.{control_access}
use Rattle.om_state.specs.State.{State}
use Rattle.om_state.specs.Values.{control_in}
use Rattle.om_team_serial.specs.declared.row.Answer.{Answer}
use Rattle.om_team_serial.specs.declared.row.Row.{Row}
use Rattle.om_team_serial.specs.declared.row.Row.TheVariants.{Blocked, Lacks}
use Rattle.om_team_serial.specs.Rows.{Asked, answered, decided}
use Rattle.om_team_serial.specs.Sites.{Site, site}
use Rattle.om_team.specs.Table.{row_of}

abbrev pub next_asked : Site → Option Instr → Option Asked
next_asked s None = Some (decided Lacks)
next_asked s (Some instr) = row_of s instr

abbrev pub choice_asked : Site → Choice → Option Asked
choice_asked s Next = next_asked s (instruction_at s.program s.stack.top.frame.body s.stack.top.frame.next)
choice_asked s (Start name) = None

-- a worker that is idle waits; one that is done or faulted has ended
abbrev pub asked_in : Raw → ℕ → Label → controls.Control → Option Asked
asked_in program workers l (Running stack) = choice_asked (site program workers l.worker stack) l.choice
asked_in program workers l Idle = Some (decided (Blocked blocked.Idle))
asked_in program workers l (Faulted fault stack) = Some (decided Lacks)
asked_in program workers l (Ended result) = Some (decided Lacks)

-- the answer at a state
abbrev pub answer_in : State → Option Asked → Option Answer
answer_in s asked = option_map (λ (a : Asked). answered a s) asked

-- the footprint: the worker's control, and what it names besides
abbrev pub names_in : Label → Option Asked → Option (List Access)
names_in l asked = option_map (λ (a : Asked). control_access l ∷ a.names) asked

-- what comes of the values at a state
abbrev pub row_in : State → Option Asked → Option Row
row_in s asked = option_map (λ (a : Asked). (answered a s).row) asked

-- the same by the control that the worker has there
abbrev pub effect_at : Raw → ℕ → Label → State → Option Row
effect_at program workers l s = row_in s (asked_in program workers l (control_in (s (obj.Control l.worker))))
