use Rattle.std.proofs.Common.{ℕ, vec_len}
use Rattle.std.specs.Prelude.{All}
use Rattle.om_code.specs.declared.raw.Raw.{Raw}
use Rattle.lab_explore_closed.specs.Explored.{IsPossibleRace}
use Rattle.lab_explore_ways.proofs.races.with_pair.Given as goal

abbrev pub invariant-loop-race : goal.invariant-loop-race
invariant-loop-race l =
    (program : Raw) (workers : ℕ) → All (IsPossibleRace program workers) l.fn.races
    → All (IsPossibleRace program workers) l.left.items

abbrev pub decreases-loop-race : goal.decreases-loop-race
decreases-loop-race l = vec_len l.left
