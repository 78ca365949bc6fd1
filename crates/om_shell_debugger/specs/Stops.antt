-- Why a run stops behind a step.
use Rattle.std.specs.Prelude.{ℕ, Bool, true, false, cond, nat_eq, List, [], ◌∷◌, map, Option, None, Some}
use Rattle.std.specs.Ordering.{int_eq}
use Rattle.om_code.specs.declared.frame.Cell.{Cell}
use Rattle.om_code.specs.declared.frame.Cell.TheVariants as cell
use Rattle.om_foot.specs.declared.object.Obj.TheVariants as object
use Rattle.om_state.specs.declared.step.Label.{Label}
use Rattle.om_state.specs.State.{State}
use Rattle.om_state.specs.Values.{cell_in}
use Rattle.om_undo_history.specs.declared.reply.StepReply.{StepReply}
use Rattle.om_undo_history.specs.declared.reply.StepReply.TheVariants as stepped
use Rattle.om_shell_commands.specs.declared.stop.Stop.{Stop}
use Rattle.om_shell_commands.specs.declared.stop.Stop.TheVariants as stop
use Rattle.om_shell_commands.specs.declared.value.GlobalCell.{GlobalCell}
use Rattle.om_undo.specs.Machines.{MachineView, state_in, step_reply}
use Rattle.om_book.specs.Books.{BookView, machine_of}
use Rattle.om_shell_debugger.specs.declared.marks.Marks.{Marks}
use Rattle.om_shell_debugger.specs.declared.stops.Watched.{Watched}
use Rattle.om_shell_debugger.specs.Looks.{line_at}
use Rattle.om_shell_debugger.specs.Calls.{with_step}

-- the first of two that is there
abbrev pub or_else : Option Stop → Option Stop → Option Stop
or_else None other = other
or_else (Some why) other = Some why

-- the step ended with a fault
abbrev pub fault_stop : StepReply → ℕ → Option Stop
fault_stop (stepped.Done serial line (Some fault)) worker = Some (stop.Fault fault worker)
fault_stop _ worker = None

abbrev pub has_line : List ℕ → ℕ → Bool
has_line [] line = false
has_line (other ∷ lines) line = cond (nat_eq other line) true (has_line lines line)

-- the worker came from another line to one at which there is a break
abbrev pub break_stop : List ℕ → ℕ → ℕ → ℕ → Option Stop
break_stop breaks before after worker = cond (nat_eq before after) None
    (cond (has_line breaks after) (Some (stop.Break after worker)) None)

abbrev pub cell_eq : Cell → Cell → Bool
cell_eq (cell.Int a) (cell.Int b) = int_eq a b
cell_eq cell.Unset cell.Unset = true
cell_eq cell.Dead cell.Dead = true
cell_eq _ _ = false

-- what a cell of a global holds
abbrev pub value_of : State → GlobalCell → Cell
value_of s global = cell_in (s (object.Global global.variable global.index))

abbrev pub watched : State → GlobalCell → Watched
watched s global = record { cell = global; held = value_of s global }

-- the first of the cells that no longer holds what it held
abbrev pub watch_stop : List Watched → State → ℕ → Option Stop
watch_stop [] after worker = None
watch_stop (w ∷ ws) after worker = cond (cell_eq w.held (value_of after w.cell)) (watch_stop ws after worker)
    (Some (stop.Watch w.cell worker))

-- why a run stops behind a step that led from one machine to another, if it does: a fault, a break, or a changed value
-- of a watched cell, of several the one set first
abbrev pub stop_behind : Marks → MachineView → MachineView → Label → Option Stop
stop_behind marks before after label =
    or_else (fault_stop (step_reply before label) label.worker)
    (or_else (break_stop marks.breaks (line_at before label.worker) (line_at after label.worker) label.worker)
    (watch_stop (map (watched (state_in before)) marks.watches) (state_in after) label.worker))

-- why a run stops behind a step that is taken where a book stands, if it does
abbrev pub stop_after : Marks → BookView → Label → Option Stop
stop_after marks b label = stop_behind marks (machine_of b) (machine_of (with_step b label)) label
