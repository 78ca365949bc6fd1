use Rattle.std.proofs.Common.{arith}
use Rattle.std.proofs.lemmas.Result.{on_ok_weaker}
use Rattle.om_lower_emit.specs.Emits.{listed, names_at}
use Rattle.om_lower_emit.specs.Arguments.{counted, few}
use Rattle.om_lower_emit.proofs.Effects.{emits_print}
use Rattle.om_lower_emit.proofs.unused.print.Goals as goal

pub returns : goal.returns
returns c =
    on_ok_weaker c.put.result
    (λ h. emits_print (names_at c.args.here.now) c.args.here.now.at.line c.args.format.now
    (listed c.args.arguments.now) c.format_number-text.result _ _ _ _
    c.format_number-text.ensures (counted c.args.arguments.now) c.in_ok-values.ensures h)
    c.put.ensures

pub overflow_cast-values : goal.overflow_cast-values
overflow_cast-values c = omega (arith, few c.args.arguments.now c.requires)
