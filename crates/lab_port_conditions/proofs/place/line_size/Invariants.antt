use Rattle.std.proofs.Common.{◌≡◌, drop}
use Rattle.lab_port_conditions.specs.Places.{line_size}
use Rattle.lab_port_conditions.proofs.place.line_size.Given as goal

abbrev pub invariant-loop-i : goal.invariant-loop-i
invariant-loop-i l = line_size l.i (drop l.i l.rest) ≡ line_size 0 l.rest
