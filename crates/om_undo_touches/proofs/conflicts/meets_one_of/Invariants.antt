use Rattle.std.proofs.Common.{◌≡◌, drop}
use Rattle.om_foot.specs.Footprint.{conflicts_with_any}
use Rattle.om_undo_touches.proofs.conflicts.meets_one_of.Given as goal

-- the answer for what is left is the answer for all
abbrev pub invariant-loop-other : goal.invariant-loop-other
invariant-loop-other l = conflicts_with_any l.access (drop l.other-index l.others)
    ≡ conflicts_with_any l.access l.others
