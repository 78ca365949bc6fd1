use Rattle.std.proofs.Common.{◌≡◌, drop}
use Rattle.om_team_serial.specs.Objects.{is_in_region}
use Rattle.om_team_serial.proofs.names.is_in_region.Given as goal

-- the regions further out decide
abbrev pub invariant-loop-depth : goal.invariant-loop-depth
invariant-loop-depth l = is_in_region (drop l.depth l.constructs.items) ≡ is_in_region l.constructs.items
