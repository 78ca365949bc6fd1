use Rattle.std.proofs.Common.{◌≡◌, take, map}
use Rattle.om_memory.specs.Plain.{plain_held}
use Rattle.om_memory.proofs.live.contexts_of.Given as goal

-- the contexts so far stand for the plain ones
abbrev pub invariant-loop-context : goal.invariant-loop-context
invariant-loop-context l = map plain_held l.contexts.items ≡ take l.context-index l.plain
