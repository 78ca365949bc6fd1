use Rattle.std.proofs.Common.{◌≡◌, drop}
use Rattle.om_lower_rules.specs.Slots.{first_copy_at}
use Rattle.om_lower_rules.specs.Copies.{first_copies_of}
use Rattle.om_lower_rules.proofs.copies.add_first.Given as goal

abbrev pub invariant-loop-copy : goal.invariant-loop-copy
invariant-loop-copy l =
    (first_copy_at (first_copies_of (drop l.copy-index l.copies)) l.variable
    ≡ first_copy_at (first_copies_of l.copies) l.variable)
    × (first_copies_of l.given.items ≡ first_copies_of l.fn.given.items)
