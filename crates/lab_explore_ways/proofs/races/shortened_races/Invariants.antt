use Rattle.std.proofs.Common.{◌++◌, vec_len}
use Rattle.lab_explore_closed.specs.Explored.{IsPossibleRace, pair_of_found}
use Rattle.lab_explore_ways.specs.Ways.{AreStill, IsOfSame}
use Rattle.lab_explore_ways.proofs.races.shortened_races.Given as goal

-- those that are left, and behind them those by a short way
abbrev pub invariant-loop-race : goal.invariant-loop-race
invariant-loop-race l =
    IsOfSame l.fn.retracer.machine l.retracer.machine
    × AreStill pair_of_found (IsPossibleRace l.fn.retracer.machine.program l.fn.retracer.machine.workers)
    l.fn.races (l.rest.items ++ l.short)

abbrev pub decreases-loop-race : goal.decreases-loop-race
decreases-loop-race l = vec_len l.rest
