use Rattle.std.proofs.Common.{◌≡◌, ◌++◌, drop}
use Rattle.om_lower_rules.specs.Slots.{by_slots}
use Rattle.om_lower_rules.specs.Copies.{first_copies_of}
use Rattle.om_lower_rules.proofs.copies.by_slots.Given as goal

abbrev pub invariant-loop-variable : goal.invariant-loop-variable
invariant-loop-variable l =
    first_copies_of l.given.items ++ by_slots (drop l.variable-index l.variables) (first_copies_of l.copies)
    ≡ by_slots l.variables (first_copies_of l.copies)
