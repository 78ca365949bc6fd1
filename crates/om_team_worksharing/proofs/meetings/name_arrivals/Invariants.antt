use Rattle.std.proofs.Common.{◌≡◌, ◌++◌, ◌-◌}
use Rattle.om_team_worksharing.specs.Barriers.{arrivals}
use Rattle.om_team_worksharing.proofs.meetings.name_arrivals.Given as goal

-- the accesses so far and those of what is left are all
abbrev pub invariant-loop-number : goal.invariant-loop-number
invariant-loop-number l = l.names ++ arrivals l.team l.number (l.size - l.number) ≡ l.fn.names ++ arrivals l.team 0
    l.size
