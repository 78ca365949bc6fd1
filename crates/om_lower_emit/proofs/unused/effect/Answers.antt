use Rattle.std.proofs.Common.{pos, Some, false, ap, sym, ◌∙◌}
use Rattle.std.proofs.lemmas.Result.{on_ok_weaker}
use Rattle.om_lower_emit.specs.Elements.{emits_element_assigned, target_is}
use Rattle.om_lower_emit.specs.Emits.{listed, names_at}
use Rattle.om_lower_emit.specs.Views.{view_assign_element, view_call, view_postfix_element, view_print}
use Rattle.om_scope_tree.specs.ResolvedTree as trees
use Rattle.om_scope_tree.specs.ResolvedView as view
use Rattle.om_lower_rules.specs.Expressions.{constant, value}
use Rattle.om_lower_rules.specs.Operators.{compound_of, step_of}
use Rattle.om_lower_emit.proofs.Effects.{effect_is, emits_dropped_call}
use Rattle.om_lower_emit.proofs.unused.effect.Goals as goal

pub returns-in_ok-value-in-AssignElement : goal.returns-in_ok-value-in-AssignElement
returns-in_ok-value-in-AssignElement c =
    let names = names_at c.args.here.now in
    let j = c.deref-in-AssignElement.result.now in
    let e = c.deref-in-AssignElement-2.result.now in
    let x = c.in-AssignElement.array in
    let o = c.in-AssignElement.operator in
    let is = ap view.expression c.in-AssignElement.is
    ∙ view_assign_element x c.in-AssignElement.index o c.in-AssignElement.e in
    let same =
    ap (λ z. trees.AssignElement x (view.expression z) o
    (view.expression e)) c.deref-in-AssignElement.ensures
    ∙ ap (λ z. trees.AssignElement x (view.expression c.in-AssignElement.index.value) o
    (view.expression z)) c.deref-in-AssignElement-2.ensures in
    on_ok_weaker c.assign_element.result
    (λ h. effect_is names c.args.here.now.at.line (trees.AssignElement x (view.expression j) o (view.expression e))
    (view.expression c.args.e.now)
    _ _ (same ∙ sym is)
    (emits_element_assigned names c.args.here.now.at.line false x (view.expression j) (compound_of o)
    (λ at. value at c.args.here.now.at.line (view.expression e)) _ _ _
    c.in_ok-value-in-AssignElement.ensures
    (target_is names c.args.here.now.at.line (view.expression e) c.assigned-in-AssignElement.result
    (record { variable = x; operator = o; keeps = false }) _ _ c.assigned-in-AssignElement.ensures h)))
    c.assign_element.ensures

pub returns-in_ok-value-in-PostfixElement : goal.returns-in_ok-value-in-PostfixElement
returns-in_ok-value-in-PostfixElement c =
    let names = names_at c.args.here.now in
    let j = c.deref-in-PostfixElement.result.now in
    let x = c.in-PostfixElement.array in
    let o = c.in-PostfixElement.operator in
    let is = ap view.expression c.in-PostfixElement.is
    ∙ view_postfix_element x c.in-PostfixElement.index o in
    let same = ap (λ z. trees.PostfixElement x (view.expression z) o) c.deref-in-PostfixElement.ensures in
    on_ok_weaker c.step_element.result
    (λ h. effect_is names c.args.here.now.at.line (trees.PostfixElement x (view.expression j) o)
    (view.expression c.args.e.now) _ _ (same ∙ sym is)
    (emits_element_assigned names c.args.here.now.at.line false x (view.expression j) (Some (step_of o))
    (λ at. constant at c.args.here.now.at.line (pos 1)) _ _ _
    c.in_ok-value-in-PostfixElement.ensures h))
    c.step_element.ensures

pub returns-in_ok-call-in-Call : goal.returns-in_ok-call-in-Call
returns-in_ok-call-in-Call c =
    let names = names_at c.args.here.now in
    let is = ap view.expression c.in-Call.is ∙ view_call c.in-Call.function c.in-Call.values in
    let same = ap (λ es. trees.Call c.in-Call.function (listed es)) c.as_slice-in-Call.ensures.value in
    on_ok_weaker c.put.result
    (λ h. effect_is names c.args.here.now.at.line (trees.Call c.in-Call.function (listed c.as_slice-in-Call.result.now))
    (view.expression c.args.e.now) _ _ (same ∙ sym is)
    (emits_dropped_call names c.args.here.now.at.line c.in-Call.function
    (listed c.as_slice-in-Call.result.now) _ _ _ c.in_ok-call-in-Call.ensures h))
    c.put.ensures

pub returns-in-Print : goal.returns-in-Print
returns-in-Print c =
    let names = names_at c.args.here.now in
    let is = ap view.expression c.in-Print.is ∙ view_print c.in-Print.format c.in-Print.values in
    let same =
    ap (λ f. trees.Print f (listed c.as_slice-in-Print.result.now)) c.as_slice.ensures
    ∙ ap (λ es. trees.Print c.in-Print.format (listed es)) c.as_slice-in-Print.ensures.value in
    on_ok_weaker c.print.result
    (λ h. effect_is names c.args.here.now.at.line (trees.Print c.as_slice.result.now (listed c.as_slice-in-Print.result.now))
    (view.expression c.args.e.now) _ _
    (same ∙ sym is) h)
    c.print.ensures
