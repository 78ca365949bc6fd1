use Rattle.std.proofs.Common.{◌≡◌, ◌++◌, drop}
use Rattle.lab_port_arguments.specs.Places.{first_spot, marks_from}
use Rattle.lab_port_arguments.proofs.place.argument_marks.Given as goal

abbrev pub invariant-loop-i : goal.invariant-loop-i
invariant-loop-i l = l.marks.items ++ marks_from l.replaced l.spot (drop l.i l.all) ≡ marks_from l.replaced first_spot l.all
