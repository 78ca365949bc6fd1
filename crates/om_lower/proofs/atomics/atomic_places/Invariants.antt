use Rattle.std.proofs.Common.{◌≡◌, ◌+◌, ◌++◌, length}
use Rattle.om_lower_rules.specs.AtomicPlaces.{places_from}
use Rattle.om_lower.proofs.atomics.atomic_places.Given as goal

-- the places so far, and those of what is left, are all
abbrev pub invariant-loop-line : goal.invariant-loop-line
invariant-loop-line l =
    (l.places.items ++ places_from l.lines.entries l.place l.left ≡ places_from l.lines.entries 0 l.code)
    × (l.place + length l.left ≡ length l.code)

abbrev pub decreases-loop-line : goal.decreases-loop-line
decreases-loop-line l = length l.left
