-- What a worker sees by the name of a variable: the innermost one in scope at its next instruction.
use Rattle.std.specs.Prelude.{ℕ, Option, None, Some}
use Rattle.om_state.specs.declared.control.Context.{Context}
use Rattle.om_state.specs.declared.control.Control as controls
use Rattle.om_state.specs.declared.control.Control.TheVariants as control
use Rattle.om_code.specs.declared.instruction.Place.TheVariants as place
use Rattle.om_code.specs.declared.raw.Raw.{Raw}
use Rattle.om_shell_commands.specs.declared.command.Variable.{Variable}
use Rattle.om_code_places.specs.declared.visible.Var.{Var}
use Rattle.om_code_places.specs.declared.visible.Var.TheVariants as var
use Rattle.om_code_places.specs.Visible.{variable_at}
use Rattle.om_shell_commands.specs.declared.value.GlobalCell.{GlobalCell}
use Rattle.om_shell_commands.specs.Objects.{length_of}
use Rattle.om_team_serial.specs.Objects.{object_of}
use Rattle.om_shell_debugger.specs.declared.local.Seen.{Seen}
use Rattle.om_shell_debugger.specs.declared.local.Seen.TheVariants as seen
use Rattle.om_undo.specs.Machines.{MachineView, state_in}
use Rattle.om_state.specs.Values.{control_in}
use Rattle.om_foot.specs.declared.object.Obj.TheVariants as object
use Rattle.om_shell_debugger.specs.Variables.{cell_at, cell_of, element_at}

-- the cell of a global variable, where there is one
abbrev pub global_seen : Option GlobalCell → Seen
global_seen None = seen.Nothing
global_seen (Some cell) = seen.Global cell

-- an element of the variable in a slot is the cell that an instruction of the frame names by that slot
abbrev pub cell_seen : Context → ℕ → Option ℕ → Seen
cell_seen context slot None = seen.Nothing
cell_seen context slot (Some element) = seen.Cell (object_of context (place.Slot slot) element)

abbrev pub var_seen : Raw → Context → Option ℕ → Option Var → Seen
var_seen program context index None = seen.Nothing
var_seen program context index (Some (var.Global number)) =
    global_seen (cell_at number (length_of program number) index)
var_seen program context index (Some (var.Slot slot length)) = cell_seen context slot (element_at length index)

-- by what the name means at the next instruction of the running frame
abbrev pub seen_in : Raw → Variable → Context → Seen
seen_in program variable context = var_seen program context variable.index
    (variable_at program context.frame.body context.frame.next variable.name)

-- a worker without a task sees globals alone; one that met a fault stands where it met it
abbrev pub seen_by : Raw → Variable → controls.Control → Seen
seen_by program variable control.Idle = global_seen (cell_of program variable)
seen_by program variable (control.Ended value) = global_seen (cell_of program variable)
seen_by program variable (control.Running stack) = seen_in program variable stack.top
seen_by program variable (control.Faulted fault stack) = seen_in program variable stack.top

-- what a worker of a machine sees, by the control that it has there
abbrev pub worker_sees : MachineView → ℕ → Variable → Seen
worker_sees m worker variable = seen_by m.program variable (control_in (state_in m (object.Control worker)))
