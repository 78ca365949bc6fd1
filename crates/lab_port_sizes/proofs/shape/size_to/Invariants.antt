use Rattle.std.proofs.Common.{◌≡◌, drop}
use Rattle.lab_port_sizes.specs.Shapes.{size_to}
use Rattle.lab_port_sizes.proofs.shape.size_to.Given as goal

abbrev pub invariant-loop-i : goal.invariant-loop-i
invariant-loop-i l = size_to l.left l.i (drop l.i l.rest) ≡ size_to l.n 0 l.rest
