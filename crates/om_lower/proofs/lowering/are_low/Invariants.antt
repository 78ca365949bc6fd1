use Rattle.std.proofs.Common.{take}
use Rattle.om_lower.specs.Heights.{AreLow}
use Rattle.om_lower.proofs.lowering.are_low.Given as goal

abbrev pub invariant-loop-body : goal.invariant-loop-body
invariant-loop-body l = AreLow l.picks (take l.body-index l.bodies)
