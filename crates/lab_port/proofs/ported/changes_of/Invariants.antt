use Rattle.std.proofs.Common.{◌≡◌, ◌++◌, drop}
use Rattle.lab_port.specs.Portings.{changes_from}
use Rattle.lab_port.proofs.ported.changes_of.Given as goal

abbrev pub invariant-loop-i : goal.invariant-loop-i
invariant-loop-i l = l.changes.items ++ changes_from l.names (drop l.i l.pieces) (drop l.i l.marks)
    ≡ changes_from l.names l.pieces l.marks
