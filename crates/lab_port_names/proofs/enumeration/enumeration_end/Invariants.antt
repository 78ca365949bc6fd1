use Rattle.std.proofs.Common.{◌≡◌, drop}
use Rattle.lab_port_names.specs.Enumerations.{enumeration_end}
use Rattle.lab_port_names.proofs.enumeration.enumeration_end.Given as goal

abbrev pub invariant-loop-i : goal.invariant-loop-i
invariant-loop-i l = enumeration_end l.named l.i l.part (drop l.i l.rest) ≡ enumeration_end l.named 0 l.fn.first l.rest
