use Rattle.std.proofs.Common.{◌≡◌, drop}
use Rattle.lab_port_names.specs.Definitions.{token_size}
use Rattle.lab_port_names.proofs.defined.token_size.Given as goal

abbrev pub invariant-loop-i : goal.invariant-loop-i
invariant-loop-i l = token_size l.i (drop l.i l.rest) ≡ token_size 0 l.rest
