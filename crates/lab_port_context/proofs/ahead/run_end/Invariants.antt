use Rattle.std.proofs.Common.{◌≡◌, drop}
use Rattle.lab_port_context.specs.Ahead.{run_end}
use Rattle.lab_port_context.proofs.ahead.run_end.Given as goal

abbrev pub invariant-loop-class : goal.invariant-loop-class
invariant-loop-class l = run_end (drop l.class-index l.rest) ≡ run_end l.rest
