use Rattle.std.proofs.Common.{◌≡◌, ◌++◌, drop}
use Rattle.om_memory.specs.Plain.{plain_context}
use Rattle.om_team_serial.specs.Objects.{own_from}
use Rattle.om_team_serial.proofs.names.own_cells.Given as goal

-- the cells so far and those of what is left are all
abbrev pub invariant-loop-number : goal.invariant-loop-number
invariant-loop-number l = l.own ++ own_from (plain_context l.context) l.number (drop l.number l.slots)
    ≡ own_from (plain_context l.context) 0 l.slots
