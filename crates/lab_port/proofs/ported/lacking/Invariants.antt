use Rattle.std.proofs.Common.{◌≡◌, ◌++◌, drop}
use Rattle.lab_port.specs.Portings.{refusals_from}
use Rattle.lab_port.proofs.ported.lacking.Given as goal

abbrev pub invariant-loop-i : goal.invariant-loop-i
invariant-loop-i l = l.refusals.items ++ refusals_from (drop l.i l.pieces) (drop l.i l.marks) ≡ refusals_from l.pieces l.marks
