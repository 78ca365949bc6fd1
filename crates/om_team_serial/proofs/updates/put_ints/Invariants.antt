use Rattle.std.proofs.Common.{◌≡◌, ◌++◌, drop}
use Rattle.om_team_serial.specs.Objects.{puts}
use Rattle.om_team_serial.proofs.updates.put_ints.Given as goal

-- the puts so far and those of what is left are all
abbrev pub invariant-loop-value : goal.invariant-loop-value
invariant-loop-value l = l.updates ++ puts (drop l.value-index l.ints) ≡ l.fn.updates ++ puts l.ints
