use Rattle.std.proofs.Common.{subst}
use Rattle.om_lower.specs.Heights.{AreLow, IsHigh}
use Rattle.om_lower.proofs.High.{first_is}
use Rattle.om_lower.proofs.Items.{all_take_next, all_taken}
use Rattle.om_lower.proofs.lowering.first_high.Goals as goal

pub returns-then-not-branch : goal.returns-then-not-branch
returns-then-not-branch c =
    first_is c.args.picks.now c.args.functions.now c.loop-index.index c.index-functions-index.result
    c.loop-index-test.true c.index-functions-index.is
    (subst (λ bodies. IsHigh c.args.picks.now bodies) c.as_slice.ensures
    (c.in_ok-are_low.ensures.high c.if-not-branch.true)) c.loop-index.invariant

pub loop-index-preserved : goal.loop-index-preserved
loop-index-preserved c =
    all_take_next (λ bodies. AreLow c.args.picks.now bodies) c.args.functions.now c.loop-index.index
    c.index-functions-index.result c.loop-index-test.true c.index-functions-index.is c.loop-index.invariant
    (subst (λ bodies. AreLow c.args.picks.now bodies) c.as_slice.ensures
    (c.in_ok-are_low.ensures.low c.if-not-branch.false))

pub returns : goal.returns
returns c = all_taken
    (λ bodies. AreLow c.args.picks.now bodies) c.args.functions.now c.loop-index.index
    c.loop-index-test.false c.loop-index.invariant
