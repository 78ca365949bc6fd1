use Rattle.std.proofs.Common.{◌≡◌, map, drop}
use Rattle.lab_explore_closed.specs.Explored.{ending_of_found}
use Rattle.lab_explore_notes.specs.Same.{same_ending, is_among}
use Rattle.lab_explore_notes.proofs.ends.is_listed.Given as goal

-- the answer for what is left is the answer for all
abbrev pub invariant-loop-found : goal.invariant-loop-found
invariant-loop-found l =
    is_among same_ending (map ending_of_found (drop l.found-index l.ends)) l.ending ≡ is_among same_ending (map
    ending_of_found l.ends) l.ending
