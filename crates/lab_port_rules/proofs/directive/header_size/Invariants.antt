use Rattle.std.proofs.Common.{◌≡◌, drop}
use Rattle.lab_port_rules.specs.Directives.{header_size}
use Rattle.lab_port_rules.proofs.directive.header_size.Given as goal

abbrev pub invariant-loop-i : goal.invariant-loop-i
invariant-loop-i l = header_size l.i (drop l.i l.rest) ≡ header_size 0 l.rest
