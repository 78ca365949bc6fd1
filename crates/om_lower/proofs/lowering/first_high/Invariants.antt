use Rattle.std.proofs.Common.{All, take}
use Rattle.om_lower.specs.Heights.{AreLow}
use Rattle.om_lower.proofs.lowering.first_high.Given as goal

abbrev pub invariant-loop-index : goal.invariant-loop-index
invariant-loop-index l = All (λ bodies. AreLow l.picks bodies) (take l.index l.functions)
