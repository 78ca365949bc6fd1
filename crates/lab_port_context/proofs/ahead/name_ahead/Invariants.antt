use Rattle.std.proofs.Common.{◌≡◌, drop}
use Rattle.lab_port_context.specs.Ahead.{name_ahead}
use Rattle.lab_port_context.proofs.ahead.name_ahead.Given as goal

abbrev pub invariant-loop-class : goal.invariant-loop-class
invariant-loop-class l = name_ahead (drop l.class-index l.rest) ≡ name_ahead l.rest
