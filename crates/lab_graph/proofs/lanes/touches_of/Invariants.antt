use Rattle.std.proofs.Common.{drop}
use Rattle.lab_graph.specs.Ranks.{AreTouches}
use Rattle.lab_graph.proofs.lanes.touches_of.Given as goal

-- the touches so far are those of the steps behind
abbrev pub invariant-loop-at : goal.invariant-loop-at
invariant-loop-at l = AreTouches l.worker (drop l.at l.steps) l.touches
