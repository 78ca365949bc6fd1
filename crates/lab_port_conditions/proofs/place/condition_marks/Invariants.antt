use Rattle.std.proofs.Common.{◌≡◌, ◌++◌, [], drop}
use Rattle.lab_port_conditions.specs.Places.{first_spot, marks_from}
use Rattle.lab_port_conditions.proofs.place.condition_marks.Given as goal

abbrev pub invariant-loop-i : goal.invariant-loop-i
invariant-loop-i l = l.marks.items ++ marks_from l.decided l.names l.spot (drop l.i l.all)
    ≡ marks_from l.decided [] first_spot l.all
