use Rattle.std.proofs.Common.{◌≡◌, ◌++◌, ◌-◌}
use Rattle.om_team.specs.Teams.{member_puts}
use Rattle.om_team.proofs.members.put_given.Given as goal

-- the puts so far and those of what is left are all
abbrev pub invariant-loop-number : goal.invariant-loop-number
invariant-loop-number l = l.updates ++ member_puts l.values (l.size - l._number) ≡ l.fn.updates
    ++ member_puts l.values l.size
