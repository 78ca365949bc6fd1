use Rattle.std.proofs.Common.{◌≡◌, ◌++◌, drop}
use Rattle.lab_port_calls.specs.Places.{marks_from, names_from, call_marks, functions_of}
use Rattle.lab_port_calls.proofs.place.call_marks.Given as goal

abbrev pub invariant-loop-i : goal.invariant-loop-i
invariant-loop-i l = record {
  marks : l.marks.items ++ marks_from l.all l.names l.spot (drop l.i l.all) ≡ call_marks l.all;
  names : names_from l.all l.names l.spot (drop l.i l.all) ≡ functions_of l.all;
}
