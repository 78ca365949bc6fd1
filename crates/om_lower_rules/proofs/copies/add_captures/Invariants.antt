use Rattle.std.proofs.Common.{◌≡◌, ◌++◌, drop}
use Rattle.std.specs.List.{flat_map}
use Rattle.om_lower_rules.specs.Slots.{capture_first}
use Rattle.om_lower_rules.specs.Copies.{first_copies_of}
use Rattle.om_lower_rules.proofs.copies.add_captures.Given as goal

abbrev pub invariant-loop-capture : goal.invariant-loop-capture
invariant-loop-capture l =
    first_copies_of l.copies.items ++ flat_map capture_first (drop l.capture-index l.captures)
    ≡ first_copies_of l.fn.copies.items ++ flat_map capture_first l.captures
