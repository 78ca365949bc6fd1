use Rattle.std.proofs.Common.{◌≡◌, ◌++◌, drop}
use Rattle.lab_port_arrays.specs.Places.{marks_from, array_marks}
use Rattle.lab_port_arrays.proofs.place.array_marks.Given as goal

abbrev pub invariant-loop-i : goal.invariant-loop-i
invariant-loop-i l = l.marks.items ++ marks_from l.all l.spot (drop l.i l.all) ≡ array_marks l.all
