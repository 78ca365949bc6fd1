use Rattle.om_memory.specs.Memories.{state_of}
use Rattle.om_memory.proofs.memory.Memory.next_ready.Goals as goal

-- what is seen of a task is what the other values hold
pub returns : goal.returns
unfolding state_of
returns c = c.next_ready.ensures
