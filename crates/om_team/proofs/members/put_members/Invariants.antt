use Rattle.std.proofs.Common.{◌≡◌, ◌++◌, ◌-◌}
use Rattle.om_team.specs.Teams.{member_controls}
use Rattle.om_team.proofs.members.put_members.Given as goal

-- the controls so far and those of what is left are all
abbrev pub invariant-loop-number : goal.invariant-loop-number
invariant-loop-number l = l.updates ++ member_controls l.team l.frame l.number (l.team.size - l.number)
    ≡ l.fn.updates ++ member_controls l.team l.frame 1 (l.team.size - 1)
