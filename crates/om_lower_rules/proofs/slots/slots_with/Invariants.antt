use Rattle.std.proofs.Common.{◌≡◌, ◌++◌, map, drop}
use Rattle.om_lower_rules.specs.Slots.{slot_with}
use Rattle.om_lower_rules.proofs.slots.slots_with.Given as goal

abbrev pub invariant-loop-variable : goal.invariant-loop-variable
invariant-loop-variable l =
    l.slots.items ++ map (slot_with l.extents l.outer l.captures) (drop l.variable-index l.variables)
    ≡ map (slot_with l.extents l.outer l.captures) l.variables
