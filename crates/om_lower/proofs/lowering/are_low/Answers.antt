use Rattle.om_code.specs.Validity.{IsLow}
use Rattle.om_lower.proofs.Items.{all_taken}
use Rattle.om_lower.proofs.lowering.are_low.Goals as goal

pub returns-clause-low : goal.returns-clause-low
returns-clause-low c =
    λ same. all_taken (λ body.
    IsLow c.args.picks.now body.code) c.args.bodies.now c.loop-body.body-index c.loop-body-test.false
    c.loop-body.invariant
