use Rattle.std.proofs.Common.{◌≡◌, ℕ, ◌<◌, get_or, length}
use Rattle.lab_races.proofs.clocks.alone.Given as goal

-- the clock has 0 for the workers so far
abbrev pub invariant-loop : goal.invariant-loop
invariant-loop l = (length l.clock.items ≡ l.counter) × ((w : ℕ) → w < l.counter
    → get_or l.clock.items w 0 ≡ 0)
