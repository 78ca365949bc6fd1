use Rattle.std.proofs.Common.{◌≡◌, ℕ, ◌<◌, get_or, length}
use Rattle.std.specs.Prelude.{max}
use Rattle.lab_races.proofs.clocks.joined.Given as goal

-- the clock has the greater serial for the workers so far
abbrev pub invariant-loop-worker : goal.invariant-loop-worker
invariant-loop-worker l = (length l.clock.items ≡ l.worker) × ((w : ℕ) → w < l.worker
    → get_or l.clock.items w 0 ≡ max (get_or l.a w 0) (get_or l.b w 0))
