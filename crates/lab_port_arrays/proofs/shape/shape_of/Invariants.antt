use Rattle.std.proofs.Common.{◌≡◌, drop}
use Rattle.lab_port_arrays.specs.Shapes.{shape_from, shape_of}
use Rattle.lab_port_arrays.proofs.shape.shape_of.Given as goal

abbrev pub invariant-loop-i : goal.invariant-loop-i
invariant-loop-i l = shape_from l.name l.shape l.declared l.context l.all (drop l.i l.all) ≡ shape_of l.name l.all
