use Rattle.std.proofs.Common.{◌≡◌, map, drop}
use Rattle.lab_explore_moves.specs.Possible.{label_of_possible}
use Rattle.lab_explore.specs.Acts.{act_of, tries}
use Rattle.lab_explore.proofs.todo.push_tries.Given as goal

-- what the steps that are left make of what is to be done is what all make
abbrev pub invariant-loop-step : goal.invariant-loop-step
invariant-loop-step l =
    tries (map label_of_possible (drop l.step-index l.steps)) (map act_of l.todos)
    ≡ tries (map label_of_possible l.steps) (map act_of l.fn.todos)
