use Rattle.std.proofs.Common.{◌≡◌, drop}
use Rattle.om_team_serial.specs.Objects.{group_in}
use Rattle.om_team_serial.proofs.names.group_of.Given as goal

-- the regions further out have the group
abbrev pub invariant-loop-depth : goal.invariant-loop-depth
invariant-loop-depth l = group_in (drop l.depth l.context.constructs.items) l.context.group
    ≡ group_in l.context.constructs.items l.context.group
