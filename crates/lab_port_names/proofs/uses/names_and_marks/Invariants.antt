use Rattle.std.proofs.Common.{◌≡◌, ◌++◌, [], drop}
use Rattle.lab_port_names.specs.Uses.{first_spot, marks_from, names_from}
use Rattle.lab_port_names.proofs.uses.names_and_marks.Given as goal

abbrev pub invariant-loop-i : goal.invariant-loop-i
invariant-loop-i l = record {
  marks : l.marks.items ++ marks_from l.names l.spot (drop l.i l.pieces) ≡ marks_from [] (first_spot l.sure) l.pieces;
  names : names_from l.names l.spot (drop l.i l.pieces) ≡ names_from [] (first_spot l.sure) l.pieces;
}
