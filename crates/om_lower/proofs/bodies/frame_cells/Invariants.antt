use Rattle.std.proofs.Common.{◌≡◌, ◌+◌, ◌≤◌, ◌*◌, drop}
use Rattle.om_lower.specs.Limits.{frame_cells}
use Rattle.om_lower.proofs.bodies.frame_cells.Given as goal

abbrev pub invariant-loop-slot : goal.invariant-loop-slot
invariant-loop-slot l =
    (l.cells + frame_cells (drop l.slot-index l.slots) ≡ frame_cells l.slots)
    × (l.cells ≤ l.slot-index * 4294967295)
