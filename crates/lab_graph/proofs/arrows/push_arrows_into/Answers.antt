use Rattle.std.proofs.Common.{◌++◌, ◌+◌, arith, drop, length, length-drop}
use Rattle.lab_graph.proofs.Adding.{next_lane}
use Rattle.lab_graph.proofs.Ranked.{lane_at}
use Rattle.lab_graph.proofs.arrows.push_arrows_into.Goals as goal

pub push_arrow_from-requires : goal.push_arrow_from-requires
push_arrow_from-requires c = (
  c.requires.0,
  lane_at (c.args.spot.now.before.now ++ c.requires.0) c.args.lanes.now c.loop-worker.worker c.index-lanes-worker.result
      (omega arith) c.index-lanes-worker.is c.requires.1,
  c.requires.2,
)

pub loop-worker-preserved : goal.loop-worker-preserved
loop-worker-preserved c =
    next_lane c.loop-worker.worker (length (drop c.loop-worker.worker c.args.lanes.now))
    (length (drop (c.loop-worker.worker + 1) c.args.lanes.now)) c.args.spot.now.before.now c.args.spot.now.later.now
    c.loop-worker.arrows.items c.push_arrow_from.new.arrows.items _
    (omega (
      arith,
      length-drop c.loop-worker.worker c.args.lanes.now,
      length-drop (c.loop-worker.worker + 1) c.args.lanes.now,
    ))
    c.in_ok-push_arrow_from.ensures c.loop-worker.invariant
