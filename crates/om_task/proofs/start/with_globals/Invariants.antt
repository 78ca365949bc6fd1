use Rattle.std.proofs.Common.{◌≡◌}
use Rattle.om_memory.specs.Memories.{state_of}
use Rattle.om_task.proofs.Starting.{start_below}
use Rattle.om_task.proofs.start.with_globals.Given as goal

-- the globals so far hold what they start with
abbrev pub invariant-loop-number : goal.invariant-loop-number
invariant-loop-number l = state_of l.store ≡ start_below l.program l.number
