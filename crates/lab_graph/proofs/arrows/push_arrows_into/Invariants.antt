use Rattle.std.proofs.Common.{◌≡◌, ◌++◌, drop, length}
use Rattle.lab_graph.specs.Pictures.{arrows_from}
use Rattle.lab_graph.proofs.arrows.push_arrows_into.Given as goal

-- the arrows so far and those of the lanes that are left are all
abbrev pub invariant-loop-worker : goal.invariant-loop-worker
invariant-loop-worker l =
    l.arrows.items ++ arrows_from l.worker (length (drop l.worker l.lanes)) l.spot.before.now l.spot.later.now
    ≡ l.initial.arrows.items ++ arrows_from 0 (length l.lanes) l.spot.before.now l.spot.later.now
