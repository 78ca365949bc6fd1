use Rattle.std.proofs.Common.{◌≡◌}
use Rattle.om_memory.specs.Memories.{state_of}
use Rattle.om_task.specs.Rules.{start_of}
use Rattle.om_task.proofs.start.started.Given as goal

-- the workers so far have their records
abbrev pub invariant-loop-worker : goal.invariant-loop-worker
invariant-loop-worker l = state_of l.store ≡ start_of l.program l.worker
