use Rattle.std.proofs.Common.{◌≡◌, ◌++◌, drop}
use Rattle.lab_port_rules.specs.Marks.{marks_from, marks_of}
use Rattle.lab_port_rules.proofs.mark.marks_of.Given as goal

abbrev pub invariant-loop-i : goal.invariant-loop-i
invariant-loop-i l = l.marks.items ++ marks_from l.facts l.place (drop l.i l.all) ≡ marks_of l.all
