use Rattle.std.proofs.Common.{◌≡◌, ℕ, List, Option, drop, length}
use Rattle.om_code.specs.declared.fault.CodeFault.{CodeFault}
use Rattle.om_code.specs.Search.{Notes, FailsToNote}
use Rattle.om_code.proofs.height.reach_all.Given as goal

-- whoever notes the height at the places that are left has noted it at all
abbrev pub invariant-loop-to : goal.invariant-loop-to
invariant-loop-to l =
    ((hs : List (Option ℕ)) (us : List ℕ) → Notes l.height (drop l.to-index l.places) l.search.heights.items
    l.search.unfollowed.items hs us → Notes l.height l.places l.fn.search.heights.items
    l.fn.search.unfollowed.items hs us)
    × ((fault : CodeFault) → FailsToNote fault l.height (drop l.to-index l.places) l.search.heights.items
    → FailsToNote fault l.height l.places l.fn.search.heights.items)
    × (length l.search.heights.items ≡ length l.fn.search.heights.items)
