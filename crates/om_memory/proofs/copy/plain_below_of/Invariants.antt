use Rattle.std.proofs.Common.{◌≡◌, take, map}
use Rattle.om_memory.specs.Plain.{plain_held}
use Rattle.om_memory.proofs.copy.plain_below_of.Given as goal

-- the contexts so far are copied
abbrev pub invariant-loop-context : goal.invariant-loop-context
invariant-loop-context l = l.copies.items ≡ map plain_held (take l.context-index l.contexts)
