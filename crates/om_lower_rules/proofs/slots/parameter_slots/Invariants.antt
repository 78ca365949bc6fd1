use Rattle.std.proofs.Common.{◌≡◌, ◌++◌, map, drop}
use Rattle.om_lower_rules.specs.Slots.{parameter_sight, slot_of}
use Rattle.om_lower_rules.proofs.slots.parameter_slots.Given as goal

abbrev pub invariant-loop-parameter : goal.invariant-loop-parameter
invariant-loop-parameter l =
    l.slots.items ++ map (slot_of l.variables) (map parameter_sight (drop l.parameter-index l.parameters))
    ≡ map (slot_of l.variables) (map parameter_sight l.parameters)
