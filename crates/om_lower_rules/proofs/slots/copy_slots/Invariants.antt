use Rattle.std.proofs.Common.{◌≡◌, ◌++◌, map, drop}
use Rattle.om_lower_rules.specs.Slots.{slot_of}
use Rattle.om_lower_rules.specs.Copies.{first_copies_of}
use Rattle.om_lower_rules.proofs.slots.copy_slots.Given as goal

abbrev pub invariant-loop-copy : goal.invariant-loop-copy
invariant-loop-copy l =
    l.slots.items ++ map (slot_of l.variables)
    (map (λ copy. copy.variable) (first_copies_of (drop l.copy-index l.copies)))
    ≡ map (slot_of l.variables) (map (λ copy. copy.variable) (first_copies_of l.copies))
