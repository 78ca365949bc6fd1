use Rattle.std.proofs.Common.{◌≡◌, ◌++◌, take, drop}
use Rattle.lab_graph.specs.Pictures.{arrows_behind, arrows_of, lanes}
use Rattle.lab_graph.proofs.arrows.arrows_between.Given as goal

-- the arrows so far and those into what is left are all
abbrev pub invariant-loop-at : goal.invariant-loop-at
invariant-loop-at l = l.arrows.items ++ arrows_behind (lanes l.steps) (take l.at l.steps) (drop l.at l.steps)
    ≡ arrows_of l.steps
