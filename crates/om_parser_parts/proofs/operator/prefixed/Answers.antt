use Rattle.om_parser_parts.specs.ExpressionReading.{prefixed}
use Rattle.om_parser_tree.specs.View.{view_expression}
use Rattle.om_parser_parts.proofs.Prefixes.{prefixed_inwards}
use Rattle.om_parser_parts.proofs.operator.prefixed.Goals as goal

pub loop-operator-preserved : goal.loop-operator-preserved
loop-operator-preserved c =
    rw c.in_ok-made.ensures (prefixed_inwards c.loop-operator.outer.items c.pop.new.self.items
    (c.in-Some.operator, c.in-Some.at) (view_expression c.loop-operator.made.value)
    (prefixed c.args.operators.items (view_expression c.args.operand.value)) c.in-Some.ensures.items
    c.loop-operator.invariant)
