-- No trail changes, and those that are added are idle.
use Rattle.std.proofs.Common.{◌+◌, ◌-◌, length}
use Rattle.om_memory.specs.Memories.{GrowTo}
use Rattle.om_memory.proofs.memory.grow.Given as goal

abbrev pub invariant-loop-alloc : goal.invariant-loop-alloc
invariant-loop-alloc l = GrowTo l.fn.trails.items l.trails.items

abbrev pub decreases-loop-alloc : goal.decreases-loop-alloc
decreases-loop-alloc l = l.worker + 1 - length l.trails.items
