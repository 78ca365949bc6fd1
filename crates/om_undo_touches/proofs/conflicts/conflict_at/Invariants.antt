use Rattle.std.proofs.Common.{◌≡◌, drop}
use Rattle.om_foot.specs.Footprint.{conflict_of}
use Rattle.om_undo_touches.specs.Accesses.{accesses_of}
use Rattle.om_undo_touches.proofs.conflicts.conflict_at.Given as goal

-- the answer for what is left is the answer for all
abbrev pub invariant-loop-shared : goal.invariant-loop-shared
invariant-loop-shared l = conflict_of (drop l.shared-index l.first) (accesses_of l.others)
    ≡ conflict_of l.first (accesses_of l.others)
