use Rattle.std.proofs.Common.{◌≡◌, drop}
use Rattle.lab_port_sizes.specs.Lengths.{length_from, length_in}
use Rattle.lab_port_sizes.proofs.length.length_in.Given as goal

abbrev pub invariant-loop-i : goal.invariant-loop-i
invariant-loop-i l = length_from l.name l.context (drop l.i l.all) ≡ length_in l.name l.all
