use Rattle.std.proofs.Common.{◌≡◌, ◌++◌, drop}
use Rattle.lab_port_prints.specs.Places.{first_spot, marks_from}
use Rattle.lab_port_prints.proofs.place.print_marks.Given as goal

abbrev pub invariant-loop-i : goal.invariant-loop-i
invariant-loop-i l = l.marks.items ++ marks_from l.spot (drop l.i l.pieces) ≡ marks_from first_spot l.pieces
