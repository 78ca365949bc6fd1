use Rattle.std.proofs.Common.{◌≡◌, drop}
use Rattle.lab_port_context.specs.Ahead.{name_size}
use Rattle.lab_port_context.proofs.ahead.name_size.Given as goal

abbrev pub invariant-loop-i : goal.invariant-loop-i
invariant-loop-i l = name_size l.i (drop l.i l.rest) ≡ name_size 0 l.rest
