use Rattle.std.proofs.Common.{◌≡◌, ℕ, drop, get_or}
use Rattle.std.specs.Prelude.{max}
use Rattle.lab_races.specs.Sweeps.{meetings, own_serial}
use Rattle.lab_races.proofs.strands.clock_of.Given as goal

-- with what is left the clock will be the one of all
abbrev pub invariant-loop-access : goal.invariant-loop-access
invariant-loop-access l = (w : ℕ) → max (get_or l.clock.items w 0) (meetings l.strands (drop l.access-index l.ordering) w)
    ≡ max (own_serial l.made w) (meetings l.strands l.ordering w)
