use Rattle.std.proofs.Common.{◌^◌}
use Rattle.om_memory.specs.Memories.{state_of}
use Rattle.om_team.specs.Counters.{StateWithin}
use Rattle.gate_rows.proofs.held.held_at.Given as goal

-- no counter of the memory is high so far
abbrev pub invariant-loop-access : goal.invariant-loop-access
invariant-loop-access l = StateWithin (2 ^ 63) (state_of l.memory)
