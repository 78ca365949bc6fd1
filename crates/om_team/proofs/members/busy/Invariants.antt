use Rattle.std.proofs.Common.{◌≡◌, ◌-◌}
use Rattle.om_memory.specs.Memories.{state_of}
use Rattle.om_team.specs.Teams.{busy_in}
use Rattle.om_team.proofs.members.busy.Given as goal

-- what is left has the first busy worker
abbrev pub invariant-loop-worker : goal.invariant-loop-worker
invariant-loop-worker l = busy_in (state_of l.store) l.worker (l.size - l.worker) ≡ busy_in (state_of l.store) 1
    (l.size - 1)
