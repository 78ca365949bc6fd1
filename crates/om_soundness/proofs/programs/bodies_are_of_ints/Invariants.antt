use Rattle.std.proofs.Common.{take}
use Rattle.std.specs.Prelude.{All}
use Rattle.om_soundness.specs.Ints.{HasIntConstants}
use Rattle.om_soundness.proofs.programs.bodies_are_of_ints.Given as goal

abbrev pub invariant-loop-body : goal.invariant-loop-body
invariant-loop-body l = All (λ body. HasIntConstants body) (take l.body-index l.bodies)
