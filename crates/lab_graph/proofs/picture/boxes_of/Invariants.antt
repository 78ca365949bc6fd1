use Rattle.std.proofs.Common.{◌≡◌, take}
use Rattle.std.specs.Prelude.{map}
use Rattle.lab_graph.specs.Pictures.{box_of}
use Rattle.lab_graph.proofs.picture.boxes_of.Given as goal

abbrev pub invariant-loop-step : goal.invariant-loop-step
invariant-loop-step l = l.boxes.items ≡ map box_of (take l.step-index l.steps)
