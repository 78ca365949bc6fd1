use Rattle.std.proofs.Common.{arith}
use Rattle.lab_graph.proofs.Ranked.{next_lane_count}
use Rattle.lab_graph.proofs.lanes.lanes.Goals as goal

pub loop-step-preserved : goal.loop-step-preserved
loop-step-preserved c =
    next_lane_count c.args.steps.now c.loop-step.step-index c.step-item.result c.loop-step.lanes c.with_lane-lanes.result _
    (omega arith) c.step-item.is c.with_lane-lanes.ensures c.loop-step.invariant
