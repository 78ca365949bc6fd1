-- Matter of proofs, for om_parser_parts too: the tree of a call.
use Rattle.std.proofs.Common.{◌≡◌, ap, map, sym, ◌∙◌}
use Rattle.om_parser_tree.specs.declared.tree.Expression.{fold-roll-Expression}
use Rattle.om_parser_tree.specs.declared.tree.Expression.TheOpen.{Expression-F}
use Rattle.om_parser_tree.specs.declared.tree.Expression.TheVariants as expressions
use Rattle.om_parser_tree.specs.Tree.{ExpressionTree, Call, arguments}
use Rattle.om_parser_tree.specs.View.{expression_layer, view_argument, view_expression}

pub view_call : (n : _) (left : _) (v : _) (right : _) → view_expression (expressions.Call n left v right)
    ≡ Call n left (arguments (map view_argument v.items)) right
view_call n left v right = ap view_expression (sym (expressions.rolls-Call n left v right)) ∙ fold-roll-Expression
    ExpressionTree expression_layer (Expression-F.Call n left v right)
