use Rattle.std.proofs.Common.{◌≡◌, drop}
use Rattle.lab_port_names.specs.Types.{type_end}
use Rattle.lab_port_names.proofs.type_name.type_end.Given as goal

abbrev pub invariant-loop-i : goal.invariant-loop-i
invariant-loop-i l = type_end l.i l.part (drop l.i l.rest) ≡ type_end 0 l.fn.first l.rest
