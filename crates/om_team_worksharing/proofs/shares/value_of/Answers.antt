use Rattle.std.proofs.Common.{rules, arith, to_z, of_z}
use Rattle.std.specs.Int.{w128}
use Rattle.std.proofs.lemmas.Int.{ints}
use Rattle.om_team_worksharing.proofs.Values.{product_fits, value_fits, value_is}
use Rattle.om_team_worksharing.proofs.shares.value_of.Goals as goal

pub overflow_mul-result : goal.overflow_mul-result
overflow_mul-result c =
    product_fits c.args.iteration (to_z w128 (of_z w128 c.from-2.result)) (to_z w128 (of_z w128 c.from-3.result))
    c.args.step (search rules) c.ranges.step (omega (arith, ints)) (omega (arith, ints))

pub overflow_add-result : goal.overflow_add-result
overflow_add-result c =
    value_fits c.args.iteration (to_z w128 (of_z w128 c.from.result)) (to_z w128 (of_z w128 c.from-2.result))
    (to_z w128 (of_z w128 c.from-3.result)) c.args.lower c.args.step
    (search rules) c.ranges.lower c.ranges.step (omega (arith, ints)) (omega (arith, ints)) (omega (arith, ints))

pub returns : goal.returns
returns c =
    value_is c.args.iteration (to_z w128 (of_z w128 c.from.result)) (to_z w128 (of_z w128 c.from-2.result))
    (to_z w128 (of_z w128 c.from-3.result)) c.args.lower c.args.step
    (search rules) c.ranges.lower c.ranges.step (omega (arith, ints)) (omega (arith, ints)) (omega (arith, ints))
