use Rattle.std.proofs.Common.{◌≡◌, ◌++◌, map, drop}
use Rattle.om_lower_rules.specs.Scopes.{slot_among}
use Rattle.om_lower.proofs.names.slots_among.Given as goal

abbrev pub invariant-loop-variable : goal.invariant-loop-variable
invariant-loop-variable l =
    l.slots.items ++ map (slot_among l.outer) (drop l.variable-index l.variables)
    ≡ map (slot_among l.outer) l.variables
