use Rattle.std.proofs.Common.{◌≡◌, ◌+◌, sym, subst, length}
use Rattle.lab_graph.specs.Ranks.{AreFrom}
use Rattle.lab_graph.proofs.Ranked.{all_more}
use Rattle.lab_graph.proofs.lanes.touches_by_worker.Goals as goal

pub loop-worker-preserved : goal.loop-worker-preserved
loop-worker-preserved c =
    subst (λ xs. (length xs ≡ c.loop-worker.worker + 1) × AreFrom 0 c.args.steps.now xs)
    (sym c.in_ok-push.ensures.items)
    (all_more c.loop-worker.worker c.args.steps.now c.loop-worker.all.items c.in_ok-touches.touches
    c.loop-worker.invariant.0 c.loop-worker.invariant.1 c.in_ok-touches.ensures)
