use Rattle.std.proofs.Common.{◌++◌, vec_len}
use Rattle.lab_explore_closed.specs.Explored.{IsPossibleEnd, ending_of_found}
use Rattle.lab_explore_ways.specs.Ways.{AreStill, IsOfSame}
use Rattle.lab_explore_ways.proofs.ends.shortened_ends.Given as goal

-- those that are left, and behind them those by a short way
abbrev pub invariant-loop-end : goal.invariant-loop-end
invariant-loop-end l =
    IsOfSame l.fn.retracer.machine l.retracer.machine
    × AreStill ending_of_found (IsPossibleEnd l.fn.retracer.machine.program l.fn.retracer.machine.workers)
    l.fn.ends (l.rest.items ++ l.short)

abbrev pub decreases-loop-end : goal.decreases-loop-end
decreases-loop-end l = vec_len l.rest
