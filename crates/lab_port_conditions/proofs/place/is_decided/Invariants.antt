use Rattle.std.proofs.Common.{◌≡◌, [], drop}
use Rattle.lab_port_conditions.specs.Places.{first_spot, state_from}
use Rattle.lab_port_conditions.proofs.place.is_decided.Given as goal

abbrev pub invariant-loop-i : goal.invariant-loop-i
invariant-loop-i l = state_from l.names l.spot (drop l.i l.all) ≡ state_from [] first_spot l.all
