use Rattle.std.proofs.Common.{◌≡◌, ◌++◌, drop}
use Rattle.lab_port_kinds.specs.Kinds.{lines_from}
use Rattle.lab_port_kinds.proofs.kind.push_lines.Given as goal

abbrev pub invariant-loop-i : goal.invariant-loop-i
invariant-loop-i l = l.out.items ++ lines_from l.places l.i (drop l.i l.places)
    ≡ l.initial.out.items ++ lines_from l.places 0 l.places
