use Rattle.std.proofs.Common.{◌≡◌, map, drop}
use Rattle.lab_explore_closed.specs.Explored.{met_of_found}
use Rattle.lab_explore_notes.specs.Same.{same_met, is_among}
use Rattle.lab_explore_notes.proofs.faults.is_listed.Given as goal

-- the answer for what is left is the answer for all
abbrev pub invariant-loop-found : goal.invariant-loop-found
invariant-loop-found l =
    is_among same_met (map met_of_found (drop l.found-index l.faults)) l.met ≡ is_among same_met (map met_of_found
    l.faults) l.met
