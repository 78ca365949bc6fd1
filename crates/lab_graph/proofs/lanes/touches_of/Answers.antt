use Rattle.std.proofs.Common.{arith}
use Rattle.lab_graph.proofs.Ranked.{note_next}
use Rattle.lab_graph.proofs.lanes.touches_of.Goals as goal

pub loop-at-preserved : goal.loop-at-preserved
loop-at-preserved c =
    note_next c.args.worker c.loop-at.at c.args.steps.now c.index-steps-at.result _ c.loop-at.touches c.note.new.touches
    (omega arith)
    (omega arith) c.index-steps-at.is (omega arith) c.loop-at.invariant c.in_ok-note.ensures
