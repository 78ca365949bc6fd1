use Rattle.std.proofs.Common.{◌≡◌, map, drop}
use Rattle.om_lower_rules.specs.Slots.{parameter_sight}
use Rattle.om_lower_tables.specs.Sighted.{sighted}
use Rattle.om_lower_tables.proofs.sights.see_parameters.Given as goal

abbrev pub invariant-loop-parameter : goal.invariant-loop-parameter
invariant-loop-parameter l =
    sighted l.seen (map parameter_sight (drop l.parameter-index l.parameters)) ≡ sighted l.fn.seen
    (map parameter_sight l.parameters)
