use Rattle.std.proofs.Common.{◌≡◌, drop, max}
use Rattle.lab_graph.specs.Pictures.{lanes}
use Rattle.lab_graph.proofs.lanes.lanes.Given as goal

-- the lanes so far and those of what is left are all
abbrev pub invariant-loop-step : goal.invariant-loop-step
invariant-loop-step l = max l.lanes (lanes (drop l.step-index l.steps)) ≡ lanes l.steps
