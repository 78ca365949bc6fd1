use Rattle.std.proofs.Common.{◌≡◌, ◌-◌}
use Rattle.om_memory.specs.Memories.{state_of}
use Rattle.om_team_worksharing.specs.Barriers.{open_in}
use Rattle.om_team_worksharing.proofs.meetings.is_open.Given as goal

-- the barrier is open where what is left of it is
abbrev pub invariant-loop-number : goal.invariant-loop-number
invariant-loop-number l = open_in (state_of l.store) l.team.name l.phase l.number (l.team.size - l.number)
    ≡ open_in (state_of l.store) l.team.name l.phase 0 l.team.size
