use Rattle.std.proofs.Common.{◌≡◌}
use Rattle.om_cells.specs.ReadyEntries.{names_ready}
use Rattle.om_cells.proofs.ReadyLemmas.{between}
use Rattle.om_cells.proofs.named.ready_behind.Given as goal

-- the first of what is left is the first of all that are behind it
abbrev pub invariant-loop-name : goal.invariant-loop-name
invariant-loop-name l = names_ready l.name-iterator ≡ names_ready (between l.after l.places.entries)
