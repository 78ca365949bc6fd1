use Rattle.std.proofs.Common.{◌≡◌, ◌++◌, drop}
use Rattle.om_team_serial.specs.Objects.{homes_for}
use Rattle.om_team_serial.proofs.names.homes_for.Given as goal

-- the homes so far and those of what is left are all
abbrev pub invariant-loop-slot : goal.invariant-loop-slot
invariant-loop-slot l = l.all ++ homes_for l.task l.frame l.homes (drop l.slot-index l.slots) ≡ homes_for l.task
    l.frame l.homes l.slots
