use Rattle.std.proofs.Common.{◌≡◌, ◌++◌, ◌-◌}
use Rattle.om_cells.specs.Slots.{olds}
use Rattle.om_cells.specs.Stores.{state_of}
use Rattle.om_cells.proofs.store.Store.noted_each.Given as goal

-- the values so far and those of what is left are all
abbrev pub invariant-loop-index : goal.invariant-loop-index
invariant-loop-index l = l.noted ++ olds l.cells.slot l.index (l.cells.count - l.index) (state_of l.self)
    ≡ olds l.cells.slot 0 l.cells.count (state_of l.self)
