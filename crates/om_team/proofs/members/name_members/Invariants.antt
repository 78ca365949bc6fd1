use Rattle.std.proofs.Common.{◌≡◌, ◌++◌, ◌-◌}
use Rattle.om_team.specs.Teams.{member_cells}
use Rattle.om_team.proofs.members.name_members.Given as goal

-- the cells so far and those of what is left are all
abbrev pub invariant-loop-number : goal.invariant-loop-number
invariant-loop-number l = l.names ++ member_cells l.team l.given l.number (l.size - l.number) ≡ l.fn.names
    ++ member_cells l.team l.given 0 l.size
