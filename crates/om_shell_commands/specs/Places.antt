-- The text of what a worker is doing.
use Rattle.std.specs.Prelude.{ℕ, List, ◌++◌, codes, decimal}
use Rattle.std.specs.Fmt.{signed_decimal}
use Rattle.om_code.specs.Faults.{fault_number}
use Rattle.om_foot.specs.Names.{name_text}
use Rattle.om_state.specs.declared.control.Context.{Context}
use Rattle.om_state.specs.declared.control.Control as controls
use Rattle.om_state.specs.declared.control.Control.TheVariants as control

-- `task 0.1.0 team 0.1 number 0 of 2 line 4`
abbrev pub context_text : Context → ℕ → List ℕ
context_text context line = codes "task " ++ name_text context.task ++ codes " team " ++ name_text context.team.name
    ++ codes " number " ++ decimal context.team.number ++ codes " of " ++ decimal context.team.size
    ++ codes " line " ++ decimal line

abbrev pub control_text : controls.Control → ℕ → List ℕ
control_text control.Idle line = codes "idle"
control_text (control.Ended value) line = codes "ended " ++ signed_decimal value
control_text (control.Faulted fault stack) line = codes "fault F" ++ decimal (fault_number fault) ++ codes " line "
    ++ decimal line
control_text (control.Running stack) line = context_text stack.top line

-- what a worker is doing, by its control and the line that it is at
abbrev pub where_text : ℕ → controls.Control → ℕ → List ℕ
where_text worker c line = codes "worker " ++ decimal worker ++ codes " " ++ control_text c line ++ codes "\n"
