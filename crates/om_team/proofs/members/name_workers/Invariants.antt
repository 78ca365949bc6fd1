use Rattle.std.proofs.Common.{◌≡◌, ◌++◌, ◌-◌}
use Rattle.om_team.specs.Teams.{workers_from}
use Rattle.om_team.proofs.members.name_workers.Given as goal

-- the accesses so far and those of what is left are all
abbrev pub invariant-loop-worker : goal.invariant-loop-worker
invariant-loop-worker l = l.names ++ workers_from l.worker (l.size - l.worker) ≡ l.fn.names ++ workers_from 1
    (l.size - 1)
