use Rattle.std.proofs.Common.{◌≡◌, drop}
use Rattle.om_shell_debugger.specs.Runs.{start_among}
use Rattle.lab_judge.proofs.judge.can_start.Given as goal

abbrev pub invariant-loop-name : goal.invariant-loop-name
invariant-loop-name l = start_among l.machine l.worker (drop l.name-index l.names) ≡ start_among l.machine l.worker
    l.names
