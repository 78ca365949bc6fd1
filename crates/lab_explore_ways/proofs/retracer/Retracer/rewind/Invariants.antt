use Rattle.std.proofs.Common.{vec_len}
use Rattle.lab_explore_ways.specs.Ways.{IsOfSame}
use Rattle.lab_explore_ways.proofs.retracer.Retracer.rewind.Given as goal

abbrev pub invariant-loop-entry : goal.invariant-loop-entry
invariant-loop-entry l = IsOfSame l.fn.self.machine l.self.machine

abbrev pub decreases-loop-entry : goal.decreases-loop-entry
decreases-loop-entry l = vec_len l.entries
