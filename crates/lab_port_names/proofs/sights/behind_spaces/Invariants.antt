use Rattle.std.proofs.Common.{◌≡◌, drop}
use Rattle.lab_port_names.specs.Sights.{behind_spaces}
use Rattle.lab_port_names.proofs.sights.behind_spaces.Given as goal

abbrev pub invariant-loop-i : goal.invariant-loop-i
invariant-loop-i l = behind_spaces (drop l.i l.rest) ≡ behind_spaces l.rest
