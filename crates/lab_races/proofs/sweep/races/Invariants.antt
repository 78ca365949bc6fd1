use Rattle.std.proofs.Common.{take}
use Rattle.lab_races.specs.Sweeps.{IsSwept}
use Rattle.lab_races.proofs.sweep.races.Given as goal

-- the steps so far were gone over
abbrev pub invariant-loop-made : goal.invariant-loop-made
invariant-loop-made l = IsSwept l.history (take l.made-index l.history) l.sweep
