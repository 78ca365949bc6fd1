use Rattle.std.proofs.Common.{◌≡◌, take}
use Rattle.om_memory.proofs.live.shares_of.Given as goal

-- the shares so far
abbrev pub invariant-loop-construct : goal.invariant-loop-construct
invariant-loop-construct l = l.constructs.items ≡ take l.construct-index l.plain
