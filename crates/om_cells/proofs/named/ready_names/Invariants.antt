use Rattle.std.proofs.Common.{◌≡◌, ◌++◌}
use Rattle.om_cells.specs.ReadyEntries.{names_ready}
use Rattle.om_cells.proofs.named.ready_names.Given as goal

-- the names so far and those of what is left are the names of all
abbrev pub invariant-loop-name : goal.invariant-loop-name
invariant-loop-name l = l.names.items ++ names_ready l.name-iterator ≡ names_ready l.places.entries
