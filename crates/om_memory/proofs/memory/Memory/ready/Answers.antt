use Rattle.std.proofs.lemmas.Result.{IfOk-weaker}
use Rattle.om_memory.specs.Memories.{state_of}
use Rattle.om_memory.proofs.memory.Memory.ready.Goals as goal

-- what is seen of a task is what the other values hold
pub returns : goal.returns
unfolding state_of
returns c = IfOk-weaker c.ready.result _ _
    (λ v x. record { ascending = x.ascending; members = x.members }) c.ready.ensures
