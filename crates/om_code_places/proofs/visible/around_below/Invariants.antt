use Rattle.std.proofs.Common.{◌≡◌, ◌≤◌}
use Rattle.om_code_places.specs.Visible.{around_below}
use Rattle.om_code_places.proofs.visible.around_below.Given as goal

-- no body at or above this one starts it
abbrev pub invariant-loop-below : goal.invariant-loop-below
invariant-loop-below l =
    (l.below ≤ l.number) × (around_below l.program.bodies l.number l.below
    ≡ around_below l.program.bodies l.number l.number)

abbrev pub decreases-loop-below : goal.decreases-loop-below
decreases-loop-below l = l.below
