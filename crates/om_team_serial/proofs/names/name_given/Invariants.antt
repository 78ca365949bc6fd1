use Rattle.std.proofs.Common.{◌≡◌, ◌++◌, drop}
use Rattle.om_team_serial.specs.Objects.{given_cells}
use Rattle.om_team_serial.proofs.names.name_given.Given as goal

-- the cells so far and those of what is left are all
abbrev pub invariant-loop-slot : goal.invariant-loop-slot
invariant-loop-slot l = l.names ++ given_cells l.task l.frame (drop l.slot-index l.slots) ≡ l.fn.names
    ++ given_cells l.task l.frame l.slots
