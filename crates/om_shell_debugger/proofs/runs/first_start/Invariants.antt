use Rattle.std.proofs.Common.{◌≡◌, length}
use Rattle.om_state.specs.Ready.{names_behind}
use Rattle.om_undo.specs.ReadyNames.{ready_names}
use Rattle.om_shell_debugger.specs.Runs.{start_among}
use Rattle.om_shell_debugger.proofs.runs.first_start.Given as goal

-- the first start among the names that are left is the first of all
abbrev pub invariant-names : goal.invariant-names
invariant-names l = start_among l.machine l.worker (names_behind l.after (ready_names l.machine))
    ≡ start_among l.machine l.worker (ready_names l.machine)

abbrev pub decreases-names : goal.decreases-names
decreases-names l = length (names_behind l.after (ready_names l.machine))
