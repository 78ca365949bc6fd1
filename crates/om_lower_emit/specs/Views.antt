-- The trees of some forms, by their variants.
use Rattle.std.proofs.Common.{◌≡◌, map, ap, sym, ◌∙◌}
use Rattle.om_scope_tree.specs.declared.resolved.ResolvedExpression.{fold-roll-ResolvedExpression}
use Rattle.om_scope_tree.specs.declared.resolved.ResolvedExpression.TheOpen.{ResolvedExpression-F}
use Rattle.om_scope_tree.specs.declared.resolved.ResolvedExpression.TheVariants as expressions
use Rattle.om_scope_tree.specs.ResolvedTree as trees
use Rattle.om_scope_tree.specs.ResolvedTree.{ResolvedExpressionTree}
use Rattle.om_scope_tree.specs.ResolvedView.{expression_layer}
use Rattle.om_scope_tree.specs.ResolvedView as view

pub view_constant : (c : _) → view.expression (expressions.Constant c) ≡ trees.Constant c
view_constant c = ap view.expression (sym (expressions.rolls-Constant c))
    ∙ fold-roll-ResolvedExpression ResolvedExpressionTree expression_layer (ResolvedExpression-F.Constant c)

pub view_variable : (x : _) → view.expression (expressions.Variable x) ≡ trees.Variable x
view_variable x = ap view.expression (sym (expressions.rolls-Variable x))
    ∙ fold-roll-ResolvedExpression ResolvedExpressionTree expression_layer (ResolvedExpression-F.Variable x)

pub view_element : (x : _) (j : _)
    → view.expression (expressions.Element x j) ≡ trees.Element x (view.expression j.value)
view_element x j = ap view.expression (sym (expressions.rolls-Element x j))
    ∙ fold-roll-ResolvedExpression ResolvedExpressionTree expression_layer (ResolvedExpression-F.Element x j)

pub view_unary : (o : _) (e : _)
    → view.expression (expressions.Unary o e) ≡ trees.Unary o (view.expression e.value)
view_unary o e = ap view.expression (sym (expressions.rolls-Unary o e))
    ∙ fold-roll-ResolvedExpression ResolvedExpressionTree expression_layer (ResolvedExpression-F.Unary o e)

pub view_call : (function : _) (es : _)
    → view.expression (expressions.Call function es) ≡ trees.Call function (trees.values
    (map view.expression es.items))
view_call function es = ap view.expression (sym (expressions.rolls-Call function es))
    ∙ fold-roll-ResolvedExpression ResolvedExpressionTree expression_layer (ResolvedExpression-F.Call function es)

pub view_print : (format : _) (es : _)
    → view.expression (expressions.Print format es) ≡ trees.Print format (trees.values
    (map view.expression es.items))
view_print format es = ap view.expression (sym (expressions.rolls-Print format es))
    ∙ fold-roll-ResolvedExpression ResolvedExpressionTree expression_layer (ResolvedExpression-F.Print format es)

pub view_binary : (a : _) (o : _) (b : _)
    → view.expression (expressions.Binary a o b) ≡ trees.Binary (view.expression a.value) o
    (view.expression b.value)
view_binary a o b = ap view.expression (sym (expressions.rolls-Binary a o b))
    ∙ fold-roll-ResolvedExpression ResolvedExpressionTree expression_layer (ResolvedExpression-F.Binary a o b)

pub view_conditional : (c : _) (a : _) (b : _)
    → view.expression (expressions.Conditional c a b) ≡ trees.Conditional (view.expression c.value)
    (view.expression a.value) (view.expression b.value)
view_conditional c a b = ap view.expression (sym (expressions.rolls-Conditional c a b))
    ∙ fold-roll-ResolvedExpression ResolvedExpressionTree expression_layer (ResolvedExpression-F.Conditional c a b)

pub view_assign_element : (x : _) (j : _) (o : _) (e : _)
    → view.expression (expressions.AssignElement x j o e) ≡ trees.AssignElement x
    (view.expression j.value) o (view.expression e.value)
view_assign_element x j o e = ap view.expression (sym (expressions.rolls-AssignElement x j o e))
    ∙ fold-roll-ResolvedExpression ResolvedExpressionTree expression_layer (ResolvedExpression-F.AssignElement x j o e)

pub view_postfix_element : (x : _) (j : _) (o : _)
    → view.expression (expressions.PostfixElement x j o) ≡ trees.PostfixElement x
    (view.expression j.value) o
view_postfix_element x j o = ap view.expression (sym (expressions.rolls-PostfixElement x j o))
    ∙ fold-roll-ResolvedExpression ResolvedExpressionTree expression_layer (ResolvedExpression-F.PostfixElement x j o)

pub view_thread_number : view.expression expressions.ThreadNumber ≡ trees.ThreadNumber
view_thread_number = ap view.expression (sym expressions.rolls-ThreadNumber)
    ∙ fold-roll-ResolvedExpression ResolvedExpressionTree expression_layer ResolvedExpression-F.ThreadNumber

pub view_team_size : view.expression expressions.TeamSize ≡ trees.TeamSize
view_team_size = ap view.expression (sym expressions.rolls-TeamSize)
    ∙ fold-roll-ResolvedExpression ResolvedExpressionTree expression_layer ResolvedExpression-F.TeamSize
