use Rattle.std.proofs.Common.{◌≡◌, ◌++◌, drop, map}
use Rattle.om_undo.specs.Machines.{state_in}
use Rattle.om_shell_debugger.specs.Stops.{watched}
use Rattle.om_shell_debugger.proofs.stops.held_by.Given as goal

abbrev pub invariant-loop-cell : goal.invariant-loop-cell
invariant-loop-cell l = l.all.items ++ map (watched (state_in l.machine)) (drop l.cell-index l.cells)
    ≡ map (watched (state_in l.machine)) l.cells
