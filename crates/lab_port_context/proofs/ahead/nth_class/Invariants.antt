use Rattle.std.proofs.Common.{◌≡◌, drop}
use Rattle.lab_port_context.specs.Ahead.{nth_class}
use Rattle.lab_port_context.proofs.ahead.nth_class.Given as goal

abbrev pub invariant-loop-class : goal.invariant-loop-class
invariant-loop-class l = nth_class l.left (drop l.class-index l.rest) ≡ nth_class l.n l.rest
