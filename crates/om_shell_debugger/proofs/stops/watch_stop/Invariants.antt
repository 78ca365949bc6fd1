use Rattle.std.proofs.Common.{◌≡◌, drop}
use Rattle.om_undo.specs.Machines.{state_in}
use Rattle.om_shell_debugger.specs.Stops.{watch_stop}
use Rattle.om_shell_debugger.proofs.stops.watch_stop.Given as goal

abbrev pub invariant-loop-one : goal.invariant-loop-one
invariant-loop-one l = watch_stop (drop l.one-index l.all) (state_in l.machine) l.worker ≡ watch_stop l.all
    (state_in l.machine) l.worker
