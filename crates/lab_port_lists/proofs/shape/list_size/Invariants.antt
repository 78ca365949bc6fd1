use Rattle.std.proofs.Common.{◌≡◌, drop}
use Rattle.lab_port_lists.specs.Shapes.{list_end, list_size}
use Rattle.lab_port_lists.proofs.shape.list_size.Given as goal

abbrev pub invariant-loop-i : goal.invariant-loop-i
invariant-loop-i l = list_end l.i l.part (drop l.i l.rest) ≡ list_size l.rest
