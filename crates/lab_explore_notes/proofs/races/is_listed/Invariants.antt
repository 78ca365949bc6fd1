use Rattle.std.proofs.Common.{◌≡◌, map, drop}
use Rattle.lab_explore_closed.specs.Explored.{pair_of_found}
use Rattle.lab_explore_notes.specs.Same.{same_pair, is_among}
use Rattle.lab_explore_notes.proofs.races.is_listed.Given as goal

-- the answer for what is left is the answer for all
abbrev pub invariant-loop-found : goal.invariant-loop-found
invariant-loop-found l =
    is_among same_pair (map pair_of_found (drop l.found-index l.races)) l.pair ≡ is_among same_pair (map
    pair_of_found l.races) l.pair
