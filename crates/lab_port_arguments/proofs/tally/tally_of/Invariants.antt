use Rattle.std.proofs.Common.{◌≡◌, drop}
use Rattle.lab_port_arguments.specs.Tallies.{tally_from, tally_of}
use Rattle.lab_port_arguments.proofs.tally.tally_of.Given as goal

abbrev pub invariant-loop-i : goal.invariant-loop-i
invariant-loop-i l = tally_from l.tally l.context (drop l.i l.all) ≡ tally_of l.all
