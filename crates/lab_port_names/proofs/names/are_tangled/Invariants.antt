use Rattle.std.proofs.Common.{◌≡◌, drop}
use Rattle.lab_port_names.specs.Names.{are_tangled}
use Rattle.lab_port_names.proofs.names.are_tangled.Given as goal

abbrev pub invariant-loop-i : goal.invariant-loop-i
invariant-loop-i l = are_tangled (drop l.i l.names) ≡ are_tangled l.names
