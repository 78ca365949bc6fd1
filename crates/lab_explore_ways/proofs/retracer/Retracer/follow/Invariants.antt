use Rattle.lab_explore_ways.specs.Ways.{IsOfSame}
use Rattle.lab_explore_ways.proofs.retracer.Retracer.follow.Given as goal

abbrev pub invariant-loop-step : goal.invariant-loop-step
invariant-loop-step l = IsOfSame l.fn.self.machine l.self.machine
