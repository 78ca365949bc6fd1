use Rattle.std.proofs.Common.{◌≡◌, ◌++◌, ◌-◌, List}
use Rattle.om_foot.specs.declared.object.SlotName.{SlotName}
use Rattle.om_state.specs.declared.value.Val.{Val}
use Rattle.om_state.specs.State.{State}
use Rattle.om_cells.specs.Slots.{Mirrors, olds}
use Rattle.om_cells.proofs.slots.noted.Given as goal

-- the values so far and those of what is left are all
abbrev pub invariant-loop-index : goal.invariant-loop-index
invariant-loop-index l = (slot : SlotName) (s : List Val → State) → Mirrors slot l.count s
    → l.noted ++ olds slot l.index (l.count - l.index) (s l.values) ≡ olds slot 0 l.count (s l.values)
