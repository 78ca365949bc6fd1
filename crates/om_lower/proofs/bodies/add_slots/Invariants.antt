use Rattle.std.proofs.Common.{◌≡◌, ◌++◌, [], All, map, take}
use Rattle.om_lower.specs.Limits.{HasFewSlots}
use Rattle.om_lower_tables.specs.Sites.{bodies_in}
use Rattle.om_lower_rules.specs.Bodies.{variables_of}
use Rattle.om_lower.proofs.bodies.add_slots.Given as goal

abbrev pub invariant-loop-site : goal.invariant-loop-site
invariant-loop-site l =
    All HasFewSlots (take l.site-index (bodies_in [] l.sites))
    × (l.slots.items ≡ l.fn.slots.items ++ map variables_of (take l.site-index (bodies_in [] l.sites)))
