-- The row of the end of the program.
use Rattle.std.specs.Prelude.{ℕ, ℤ, pos, Bool, true, false, Option, None, Some, [], ◌∷◌}
use Rattle.om_foot.specs.declared.object.Obj.TheVariants as obj
use Rattle.om_code.specs.Frames.{int_at}
use Rattle.om_events.specs.declared.event.Record.TheVariants as event_record
use Rattle.om_events.specs.declared.kind.Endpoint.TheVariants as endpoint
use Rattle.om_events.specs.declared.kind.TaskFlag.TheVariants as flag
use Rattle.om_state.specs.declared.control.Context.{Context}
use Rattle.om_state.specs.declared.control.Kind.{Kind}
use Rattle.om_state.specs.declared.control.Kind.TheVariants as kind
use Rattle.om_state.specs.declared.control.Edit.TheVariants.{End}
use Rattle.om_state.specs.declared.step.Blocked.TheVariants as blocked
use Rattle.om_state.specs.declared.step.Update.TheVariants.{Keep}
use Rattle.om_state.specs.Values.{count_in}
use Rattle.om_team_serial.specs.declared.row.Row.{Row}
use Rattle.om_team_serial.specs.declared.row.Row.TheVariants.{Goes, Blocked, Lacks}
use Rattle.om_team_serial.specs.Rows.{Asked, decided, first_of, is_zero}
use Rattle.om_team_serial.specs.Objects.{read, events, event}

-- C17 5.1.2.2.3: the value with which the program ends
abbrev pub value_of : Context → Bool → Option ℤ
value_of c true = int_at 0 c.frame.operands
value_of c false = Some (pos 0)

-- it ends once all tasks of the initial task's team have ended
abbrev pub finished : Context → ℤ → Bool → Row
finished c n true = Goes (End n ∷ [])
    (Keep ∷ event (event_record.ImplicitTask endpoint.End [] c.task 0 1 flag.Initial) ∷ [])
finished c n false = Blocked blocked.Children

-- only an initial task has such an end
abbrev pub finished_row : ℕ → Context → Kind → Option ℤ → Asked
finished_row worker c kind.Implicit n = decided Lacks
finished_row worker c kind.Explicit n = decided Lacks
finished_row worker c kind.Initial None = decided Lacks
finished_row worker c kind.Initial (Some n) = record {
  names = read (obj.Pending c.team.name c.phase) ∷ events worker ∷ [];
  row = λ values. finished c n (is_zero (count_in (first_of values)));
}

abbrev pub finish_row : ℕ → Context → Bool → Asked
finish_row worker c has_value = finished_row worker c c.kind (value_of c has_value)
