-- The texts of breaks, of watches, of why a run stopped, and of free runs.
use Rattle.std.specs.Prelude.{ℕ, List, ◌++◌, Bool, true, false, codes, decimal}
use Rattle.om_code.specs.declared.raw.Raw.{Raw}
use Rattle.om_code.specs.Faults.{fault_number}
use Rattle.om_shell_commands.specs.declared.stop.Stop.{Stop}
use Rattle.om_shell_commands.specs.declared.stop.Stop.TheVariants as stop
use Rattle.om_shell_commands.specs.declared.value.GlobalCell.{GlobalCell}
use Rattle.om_shell_commands.specs.Objects.{variable_text}

abbrev pub break_text : ℕ → List ℕ
break_text line = codes "break " ++ decimal line ++ codes "\n"

abbrev pub watch_text : Raw → GlobalCell → List ℕ
watch_text program global = codes "watch " ++ variable_text program global ++ codes "\n"

-- whether there was such a break
abbrev pub deleted_text : ℕ → Bool → List ℕ
deleted_text line true = codes "deleted " ++ decimal line ++ codes "\n"
deleted_text line false = codes "no break " ++ decimal line ++ codes "\n"

abbrev pub by_worker : ℕ → List ℕ
by_worker worker = codes " worker " ++ decimal worker

abbrev pub stop_text : Raw → Stop → List ℕ
stop_text program (stop.Fault fault worker) = codes "fault F" ++ decimal (fault_number fault) ++ by_worker worker
stop_text program (stop.Break line worker) = codes "break " ++ decimal line ++ by_worker worker
stop_text program (stop.Watch global worker) = codes "watch " ++ variable_text program global ++ by_worker worker
stop_text program stop.Limit = codes "limit"
stop_text program stop.Ended = codes "ended"
stop_text program stop.Stuck = codes "stuck"

-- how many steps a run made, and why it stopped
abbrev pub ran_text : Raw → ℕ → Stop → List ℕ
ran_text program steps why = codes "ran " ++ decimal steps ++ codes " " ++ stop_text program why ++ codes "\n"

-- how many steps a free run made
abbrev pub freed_text : ℕ → List ℕ
freed_text steps = codes "freed " ++ decimal steps ++ codes "\n"
