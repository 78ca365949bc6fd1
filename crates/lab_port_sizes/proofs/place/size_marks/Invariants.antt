use Rattle.std.proofs.Common.{◌≡◌, ◌++◌, drop}
use Rattle.lab_port_sizes.specs.Places.{marks_from, names_from, size_marks, sizes_of}
use Rattle.lab_port_sizes.proofs.place.size_marks.Given as goal

abbrev pub invariant-loop-i : goal.invariant-loop-i
invariant-loop-i l = record {
  marks : l.marks.items ++ marks_from l.all l.spot (drop l.i l.all) ≡ size_marks l.all;
  names : names_from l.all l.names l.spot (drop l.i l.all) ≡ sizes_of l.all;
}
