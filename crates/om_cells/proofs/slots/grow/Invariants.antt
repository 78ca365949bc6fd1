use Rattle.std.proofs.Common.{◌-◌}
use Rattle.om_cells.specs.Slots.{Grows}
use Rattle.om_cells.proofs.slots.grow.Given as goal

abbrev pub invariant-loop-values : goal.invariant-loop-values
invariant-loop-values l = Grows l.fn.values.items l.values.items

abbrev pub decreases-loop-values : goal.decreases-loop-values
decreases-loop-values l = l.count - l.values.len
