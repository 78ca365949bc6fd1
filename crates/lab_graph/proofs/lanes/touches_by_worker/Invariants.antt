use Rattle.std.proofs.Common.{◌≡◌, length}
use Rattle.lab_graph.specs.Ranks.{AreFrom}
use Rattle.lab_graph.proofs.lanes.touches_by_worker.Given as goal

-- the touches so far are those of the workers so far
abbrev pub invariant-loop-worker : goal.invariant-loop-worker
invariant-loop-worker l = (length l.all.items ≡ l.worker) × AreFrom 0 l.steps l.all.items
