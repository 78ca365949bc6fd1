use Rattle.std.proofs.Common.{◌≡◌, ◌++◌, drop}
use Rattle.om_team_serial.specs.Objects.{same_puts}
use Rattle.om_team_serial.proofs.updates.put_single.Given as goal

-- the puts so far and those of what is left are all
abbrev pub invariant-loop-name : goal.invariant-loop-name
invariant-loop-name l = l.updates ++ same_puts l.cell (drop l._name-index l.names) ≡ l.fn.updates ++ same_puts l.cell l.names
