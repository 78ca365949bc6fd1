use Rattle.std.proofs.Common.{◌≡◌, drop}
use Rattle.lab_port_names.specs.Enumerations.{constants_from, no_constants}
use Rattle.lab_port_names.proofs.constant.constants_from.Given as goal

abbrev pub invariant-loop-i : goal.invariant-loop-i
invariant-loop-i l = constants_from l.names l.state (drop l.i l.list) ≡ constants_from l.names no_constants l.list
