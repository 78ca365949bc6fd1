use Rattle.std.proofs.Common.{◌≡◌, ◌<◌, ◌++◌, true, map, refl, sym, ap, ◌∙◌, arith}
use Rattle.std.proofs.lemmas.List.{drop_all}
use Rattle.std.proofs.lemmas.Result.{err_from_is_err_and}
use Rattle.om_parser_tree.specs.Tree.{arguments}
use Rattle.om_scope_rules.specs.ExpressionRules.{expression_breaches}
use Rattle.om_scope_rules.specs.Resolution.{resolved_expression}
use Rattle.om_scope_tree.specs.ResolvedView as view
use Rattle.om_scope_parts.proofs.Arguments.{arguments_refuse, arguments_step, made_all, made_step, printed_all, printed_behind}
use Rattle.om_scope_parts.proofs.Arguments.{printed_format, printed_made, printed_refuse, printed_step}
use Rattle.om_scope_parts.proofs.Items.{drop-item, map-push}
use Rattle.om_parser_tree.specs.declared.tree.Expression.{fold-roll-Expression}
use Rattle.om_parser_tree.specs.declared.tree.Expression.TheVariants as expressions
use Rattle.om_parser_tree.specs.declared.tree.Expression.TheViews.{size-Expression, sized-Assign, sized-Binary}
use Rattle.om_parser_tree.specs.declared.tree.Expression.TheViews.{sized-Conditional}
use Rattle.om_parser_tree.specs.CallViews.{view_call}
use Rattle.om_parser_tree.specs.View.{view_expression, view_argument}
use Rattle.om_scope_tree.specs.declared.resolved.ResolvedExpression.{fold-roll-ResolvedExpression}
use Rattle.om_scope_tree.specs.declared.resolved.ResolvedExpression.TheVariants as made
use Rattle.om_scope_rules.specs.ExpressionRules.{argument_count, arguments_breaches, array_breaches, call_breaches}
use Rattle.om_scope_rules.specs.ExpressionRules.{misprint_breaches, printed_breaches, target_breaches}
use Rattle.om_scope_rules.specs.Faults.{first_of}
use Rattle.om_scope_rules.specs.InRow.{first_of_left}
use Rattle.om_scope_rules.specs.InRow.{both_whole, first_refuses, second_refuses}
use Rattle.om_scope_parts.proofs.Targets.{no_target, no_target_inside}
use Rattle.om_scope_rules.specs.Resolves.{refuses}
use Rattle.om_scope_parts.proofs.expression.+expression.Goals as goal

pub resolve_expression-returns-in-Call : goal.resolve_expression-returns-in-Call
unfolding expression_breaches resolved_expression
resolve_expression-returns-in-Call t c = record {
  checked =
      let h = rw c.as_slice.ensures.value at c.resolve_call.ensures.checked in
      rw (c.in-Call.is, view_call c.in-Call.name c.in-Call.open_paren c.in-Call.values c.in-Call.close_paren) h;
  resolved =
      let h = rw c.as_slice.ensures.value at c.resolve_call.ensures.resolved in
      rw (c.in-Call.is, view_call c.in-Call.name c.in-Call.open_paren c.in-Call.values c.in-Call.close_paren) h;
}

pub resolve_values-loop-argument-preserved : goal.resolve_values-loop-argument-preserved
resolve_values-loop-argument-preserved t c =
    let here = ap (map view_argument) (drop-item c.args.values.now c.loop-argument.argument-index
    c.argument-item.result c.loop-argument-test.true c.argument-item.is) in
    let left = rw here at c.loop-argument.invariant in
    let added = c.in_ok-add.ensures.added in
    let checked = rw added.1 at c.resolve_expression-value.ensures.checked in
    let made = rw added.1 at c.resolve_expression-value.ensures.resolved in
    let grown = ap (map view.expression) added.2 ∙ map-push view.expression
    c.loop-argument.resolved.items added.0 in
    rw grown (arguments_step _ _ _ _ _ left.0 checked, made_step _ _ _ _ _ _ _ left.1 made)

pub resolve_values-returns-in_err-add : goal.resolve_values-returns-in_err-add
resolve_values-returns-in_err-add t c =
    let p = err_from_is_err_and c.from_residual.result c.from_residual.ensures.1 in
    let here = ap (map view_argument) (drop-item c.args.values.now c.loop-argument.argument-index
    c.argument-item.result c.loop-argument-test.true c.argument-item.is) in
    let left = rw here at c.loop-argument.invariant in
    rw (p.1, p.2) (refuses (arguments_refuse _ _ _ _ _ _ left.0
    (c.in_err-add.ensures.checked _ c.resolve_expression-value.ensures.checked)))

pub resolve_values-returns : goal.resolve_values-returns
unfolding arguments_breaches
resolve_values-returns t c = record {
  checked =
      let none = ap (λ vs. arguments (map view_argument vs)) (drop_all c.loop-argument.argument-index
      c.args.values.now (omega (arith, c.loop-argument-test.false))) in
      c.loop-argument.invariant.0 ∙ ap (arguments_breaches c.args.symbols.now) none;
  resolved =
      let none = ap (λ vs. arguments (map view_argument vs)) (drop_all c.loop-argument.argument-index
      c.args.values.now (omega (arith, c.loop-argument-test.false))) in
      made_all _ _ _ _ none c.loop-argument.invariant.1;
}

pub resolve_printed-loop-argument-preserved-then-place-eq0 : goal.resolve_printed-loop-argument-preserved-then-place-eq0
resolve_printed-loop-argument-preserved-then-place-eq0 t c =
    let here = ap (map view_argument) (drop-item c.args.values.now c.loop-argument.argument-index
    c.argument-item.result c.loop-argument-test.true c.argument-item.is) in
    let left = rw here at c.loop-argument.invariant in
    let first : c.loop-argument.place ≡ 0 = omega (arith, c.if-place-eq0.true) in
    (printed_behind _ _ _ _ _ _ first left.0, printed_format _ _ _ _ _ _ _ first left.1, omega arith)

pub resolve_printed-loop-argument-preserved : goal.resolve_printed-loop-argument-preserved
resolve_printed-loop-argument-preserved t c =
    let here = ap (map view_argument) (drop-item c.args.values.now c.loop-argument.argument-index
    c.argument-item.result c.loop-argument-test.true c.argument-item.is) in
    let left = rw here at c.loop-argument.invariant in
    let added = c.in_ok-add.ensures.added in
    let checked = rw added.1 at c.resolve_argument-value.ensures.checked in
    let made = rw added.1 at c.resolve_argument-value.ensures.resolved in
    let grown = ap (map view.expression) added.2 ∙ map-push view.expression
    c.loop-argument.resolved.items added.0 in
    let above : 0 < c.loop-argument.place = omega (arith, c.if-place-eq0.false) in
    rw grown (
      printed_step _ _ _ _ _ _ left.0 checked,
      printed_made _ _ _ _ _ _ _ _ above left.1 made,
      omega (arith, left.2),
    )

pub resolve_printed-returns-in_err-add : goal.resolve_printed-returns-in_err-add
resolve_printed-returns-in_err-add t c =
    let p = err_from_is_err_and c.from_residual.result c.from_residual.ensures.1 in
    let here = ap (map view_argument) (drop-item c.args.values.now c.loop-argument.argument-index
    c.argument-item.result c.loop-argument-test.true c.argument-item.is) in
    let left = rw here at c.loop-argument.invariant in
    rw (p.1, p.2) (refuses (printed_refuse _ _ _ _ _ _ _ left.0
    (c.in_err-add.ensures.checked _ c.resolve_argument-value.ensures.checked)))

pub resolve_printed-returns : goal.resolve_printed-returns
unfolding printed_breaches
resolve_printed-returns t c = record {
  checked =
      let none = ap (λ vs. arguments (map view_argument vs)) (drop_all c.loop-argument.argument-index
      c.args.values.now (omega (arith, c.loop-argument-test.false))) in
      c.loop-argument.invariant.0 ∙ ap (printed_breaches c.args.symbols.now c.loop-argument.place) none;
  resolved =
      let none = ap (λ vs. arguments (map view_argument vs)) (drop_all c.loop-argument.argument-index
      c.args.values.now (omega (arith, c.loop-argument-test.false))) in
      printed_all _ _ _ _ _ none c.loop-argument.invariant.1;
}

pub resolve_expression-returns-in_err-left-in-Binary : goal.resolve_expression-returns-in_err-left-in-Binary
unfolding expression_breaches
resolve_expression-returns-in_err-left-in-Binary t c =
    let p = err_from_is_err_and c.from_residual-in_err-left-in-Binary.result
    c.from_residual-in_err-left-in-Binary.ensures.1 in
    let left = expression_breaches c.args.symbols.now true (view_expression c.in-Binary.left.value) in
    let right = expression_breaches c.args.symbols.now true (view_expression c.in-Binary.right.value) in
    rw (p.1, p.2, c.in-Binary.is, ← expressions.rolls-Binary, fold-roll-Expression)
    (refuses (first_refuses left right _ (rw c.deref-in-Binary.ensures at c.in_err-left-in-Binary.ensures.checked)))

pub resolve_expression-returns-in_err-right-in-Binary : goal.resolve_expression-returns-in_err-right-in-Binary
unfolding expression_breaches
resolve_expression-returns-in_err-right-in-Binary t c =
    let p = err_from_is_err_and c.from_residual-in_err-right-in-Binary.result
    c.from_residual-in_err-right-in-Binary.ensures.1 in
    let left = expression_breaches c.args.symbols.now true (view_expression c.in-Binary.left.value) in
    let right = expression_breaches c.args.symbols.now true (view_expression c.in-Binary.right.value) in
    rw (p.1, p.2, c.in-Binary.is, ← expressions.rolls-Binary, fold-roll-Expression)
    (refuses (second_refuses left right _ (rw c.deref-in-Binary.ensures at c.in_ok-left-in-Binary.ensures.checked)
    (rw c.deref-in-Binary-2.ensures at c.in_err-right-in-Binary.ensures.checked)))

pub resolve_expression-returns-in_ok-right-in-Binary : goal.resolve_expression-returns-in_ok-right-in-Binary
unfolding expression_breaches resolved_expression
resolve_expression-returns-in_ok-right-in-Binary t c = record {
  checked =
      let left = expression_breaches c.args.symbols.now true (view_expression c.in-Binary.left.value) in
      let right = expression_breaches c.args.symbols.now true (view_expression c.in-Binary.right.value) in
      rw (c.in-Binary.is, ← expressions.rolls-Binary, fold-roll-Expression)
      (both_whole left right (rw c.deref-in-Binary.ensures at c.in_ok-left-in-Binary.ensures.checked)
      (rw c.deref-in-Binary-2.ensures at c.in_ok-right-in-Binary.ensures.checked));
  resolved =
      let left = rw c.deref-in-Binary.ensures at c.in_ok-left-in-Binary.ensures.resolved in
      let right = rw c.deref-in-Binary-2.ensures at c.in_ok-right-in-Binary.ensures.resolved in
      rw (
        c.in-Binary.is,
        ← expressions.rolls-Binary,
        fold-roll-Expression,
        left,
        right,
        ← made.rolls-Binary,
        fold-roll-ResolvedExpression,
      ) refl;
}

pub resolve_expression-returns-in_err-condition-in-Conditional :
    goal.resolve_expression-returns-in_err-condition-in-Conditional
unfolding expression_breaches
resolve_expression-returns-in_err-condition-in-Conditional t c =
    let p = err_from_is_err_and c.from_residual-in_err-condition-in-Conditional.result
    c.from_residual-in_err-condition-in-Conditional.ensures.1 in
    let condition = expression_breaches c.args.symbols.now true (view_expression c.in-Conditional.condition.value) in
    let value = expression_breaches c.args.symbols.now true (view_expression c.in-Conditional.then.value) in
    let other = expression_breaches c.args.symbols.now true (view_expression c.in-Conditional.other.value) in
    rw (p.1, p.2, c.in-Conditional.is, ← expressions.rolls-Conditional, fold-roll-Expression)
    (refuses (first_refuses (condition ++ value) other _ (first_refuses condition value _
    (rw c.deref-in-Conditional.ensures at c.in_err-condition-in-Conditional.ensures.checked))))

pub resolve_expression-returns-in_err-then-in-Conditional : goal.resolve_expression-returns-in_err-then-in-Conditional
unfolding expression_breaches
resolve_expression-returns-in_err-then-in-Conditional t c =
    let p = err_from_is_err_and c.from_residual-in_err-then-in-Conditional.result
    c.from_residual-in_err-then-in-Conditional.ensures.1 in
    let condition = expression_breaches c.args.symbols.now true (view_expression c.in-Conditional.condition.value) in
    let value = expression_breaches c.args.symbols.now true (view_expression c.in-Conditional.then.value) in
    let other = expression_breaches c.args.symbols.now true (view_expression c.in-Conditional.other.value) in
    rw (p.1, p.2, c.in-Conditional.is, ← expressions.rolls-Conditional, fold-roll-Expression)
    (refuses (first_refuses (condition ++ value) other _ (second_refuses condition value _
    (rw c.deref-in-Conditional.ensures at c.in_ok-condition-in-Conditional.ensures.checked)
    (rw c.deref-in-Conditional-2.ensures at c.in_err-then-in-Conditional.ensures.checked))))

pub resolve_expression-returns-in_err-other-in-Conditional : goal.resolve_expression-returns-in_err-other-in-Conditional
unfolding expression_breaches
resolve_expression-returns-in_err-other-in-Conditional t c =
    let p = err_from_is_err_and c.from_residual-in_err-other-in-Conditional.result
    c.from_residual-in_err-other-in-Conditional.ensures.1 in
    let condition = expression_breaches c.args.symbols.now true (view_expression c.in-Conditional.condition.value) in
    let value = expression_breaches c.args.symbols.now true (view_expression c.in-Conditional.then.value) in
    let other = expression_breaches c.args.symbols.now true (view_expression c.in-Conditional.other.value) in
    rw (p.1, p.2, c.in-Conditional.is, ← expressions.rolls-Conditional, fold-roll-Expression)
    (refuses (second_refuses (condition ++ value) other _ (both_whole condition value
    (rw c.deref-in-Conditional.ensures at c.in_ok-condition-in-Conditional.ensures.checked)
    (rw c.deref-in-Conditional-2.ensures at c.in_ok-then-in-Conditional.ensures.checked))
    (rw c.deref-in-Conditional-3.ensures at c.in_err-other-in-Conditional.ensures.checked)))

pub resolve_expression-returns-in_ok-other-in-Conditional : goal.resolve_expression-returns-in_ok-other-in-Conditional
unfolding expression_breaches resolved_expression
resolve_expression-returns-in_ok-other-in-Conditional t c = record {
  checked =
      let condition = expression_breaches c.args.symbols.now true (view_expression c.in-Conditional.condition.value) in
      let value = expression_breaches c.args.symbols.now true (view_expression c.in-Conditional.then.value) in
      let other = expression_breaches c.args.symbols.now true (view_expression c.in-Conditional.other.value) in
      rw (c.in-Conditional.is, ← expressions.rolls-Conditional, fold-roll-Expression)
      (both_whole (condition ++ value) other (both_whole condition value
      (rw c.deref-in-Conditional.ensures at c.in_ok-condition-in-Conditional.ensures.checked)
      (rw c.deref-in-Conditional-2.ensures at c.in_ok-then-in-Conditional.ensures.checked))
      (rw c.deref-in-Conditional-3.ensures at c.in_ok-other-in-Conditional.ensures.checked));
  resolved =
      let condition = rw c.deref-in-Conditional.ensures at c.in_ok-condition-in-Conditional.ensures.resolved in
      let value = rw c.deref-in-Conditional-2.ensures at c.in_ok-then-in-Conditional.ensures.resolved in
      let other = rw c.deref-in-Conditional-3.ensures at c.in_ok-other-in-Conditional.ensures.resolved in
      rw (
        c.in-Conditional.is,
        ← expressions.rolls-Conditional,
        fold-roll-Expression,
        condition,
        value,
        other,
        ← made.rolls-Conditional,
        fold-roll-ResolvedExpression,
      ) refl;
}

pub resolve_expression-returns-in_err-target-in-Assign : goal.resolve_expression-returns-in_err-target-in-Assign
unfolding expression_breaches
resolve_expression-returns-in_err-target-in-Assign t c =
    let p = err_from_is_err_and c.from_residual-in_err-target-in-Assign.result
    c.from_residual-in_err-target-in-Assign.ensures.1 in
    let target = target_breaches c.args.symbols.now (view_expression c.in-Assign.target.value) in
    let value = expression_breaches c.args.symbols.now true (view_expression c.in-Assign.value.value) in
    rw (p.1, p.2, c.in-Assign.is, ← expressions.rolls-Assign, fold-roll-Expression)
    (refuses (first_refuses target value _ (rw c.deref-in-Assign.ensures at c.in_err-target-in-Assign.ensures.checked)))

pub resolve_expression-returns-in_err-value-in-Assign : goal.resolve_expression-returns-in_err-value-in-Assign
unfolding expression_breaches
resolve_expression-returns-in_err-value-in-Assign t c =
    let p = err_from_is_err_and c.from_residual-in_err-value-in-Assign.result
    c.from_residual-in_err-value-in-Assign.ensures.1 in
    let target = target_breaches c.args.symbols.now (view_expression c.in-Assign.target.value) in
    let value = expression_breaches c.args.symbols.now true (view_expression c.in-Assign.value.value) in
    rw (p.1, p.2, c.in-Assign.is, ← expressions.rolls-Assign, fold-roll-Expression)
    (refuses (second_refuses target value _ (rw c.deref-in-Assign.ensures at c.in_ok-target-in-Assign.ensures.checked)
    (rw c.deref-in-Assign-2.ensures at c.in_err-value-in-Assign.ensures.checked)))

pub resolve_expression-returns-in_ok-value-in-Assign : goal.resolve_expression-returns-in_ok-value-in-Assign
unfolding expression_breaches resolved_expression
resolve_expression-returns-in_ok-value-in-Assign t c = record {
  checked =
      let target = target_breaches c.args.symbols.now (view_expression c.in-Assign.target.value) in
      let value = expression_breaches c.args.symbols.now true (view_expression c.in-Assign.value.value) in
      rw (c.in-Assign.is, ← expressions.rolls-Assign, fold-roll-Expression)
      (both_whole target value (rw c.deref-in-Assign.ensures at c.in_ok-target-in-Assign.ensures.checked)
      (rw c.deref-in-Assign-2.ensures at c.in_ok-value-in-Assign.ensures.checked));
  resolved =
      let target = rw c.deref-in-Assign.ensures at c.in_ok-target-in-Assign.ensures.resolved in
      let value = rw c.deref-in-Assign-2.ensures at c.in_ok-value-in-Assign.ensures.resolved in
      rw (c.in-Assign.is, ← expressions.rolls-Assign, fold-roll-Expression, target, value, c.assigned.ensures) refl;
}

pub resolve_expression-returns-in_err-target-in-Postfix : goal.resolve_expression-returns-in_err-target-in-Postfix
unfolding expression_breaches
resolve_expression-returns-in_err-target-in-Postfix t c =
    let p = err_from_is_err_and c.from_residual-in_err-target-in-Postfix.result
    c.from_residual-in_err-target-in-Postfix.ensures.1 in
    rw (p.1, p.2, c.in-Postfix.is, ← expressions.rolls-Postfix, fold-roll-Expression)
    (refuses (rw c.deref-in-Postfix.ensures at c.in_err-target-in-Postfix.ensures.checked))

pub resolve_expression-returns-in_ok-target-in-Postfix : goal.resolve_expression-returns-in_ok-target-in-Postfix
unfolding expression_breaches resolved_expression
resolve_expression-returns-in_ok-target-in-Postfix t c = record {
  checked =
      rw (c.in-Postfix.is, ← expressions.rolls-Postfix, fold-roll-Expression)
      (rw c.deref-in-Postfix.ensures at c.in_ok-target-in-Postfix.ensures.checked);
  resolved =
      let target = rw c.deref-in-Postfix.ensures at c.in_ok-target-in-Postfix.ensures.resolved in
      rw (c.in-Postfix.is, ← expressions.rolls-Postfix, fold-roll-Expression, target, c.stepped.ensures) refl;
}

pub resolve_expression-returns-in_ok-array-in-Index : goal.resolve_expression-returns-in_ok-array-in-Index
unfolding expression_breaches resolved_expression
resolve_expression-returns-in_ok-array-in-Index t c = record {
  checked =
      rw (c.in-Index.is, ← expressions.rolls-Index, fold-roll-Expression)
      (rw c.deref-in-Index.ensures at c.in_ok-array-in-Index.ensures.index.checked);
  resolved =
      let found = c.in_ok-array-in-Index.ensures in
      let index = rw c.deref-in-Index.ensures at found.index.resolved in
      rw (
        c.in-Index.is,
        ← expressions.rolls-Index,
        fold-roll-Expression,
        found.array,
        index,
        ← made.rolls-Element,
        fold-roll-ResolvedExpression,
      ) refl;
}

pub resolve_expression-returns-in_err-array-in-Index : goal.resolve_expression-returns-in_err-array-in-Index
unfolding expression_breaches
resolve_expression-returns-in_err-array-in-Index t c =
    let p = err_from_is_err_and c.from_residual-in_err-array-in-Index.result
    c.from_residual-in_err-array-in-Index.ensures.1 in
    rw (p.1, p.2, c.in-Index.is, ← expressions.rolls-Index, fold-roll-Expression)
    (refuses (rw c.deref-in-Index.ensures at c.in_err-array-in-Index.ensures.index.checked))

pub resolve_expression-returns-in_err-resolve_scalar-in-Name :
    goal.resolve_expression-returns-in_err-resolve_scalar-in-Name
unfolding expression_breaches
resolve_expression-returns-in_err-resolve_scalar-in-Name t c =
    let p = err_from_is_err_and c.from_residual.result c.from_residual.ensures.1 in
    rw (p.1, p.2, c.in-Name.is, ← expressions.rolls-Name, fold-roll-Expression)
    (refuses (λ other. c.in_err-resolve_scalar-in-Name.ensures.checked))

pub resolve_expression-returns-in_err-constant_of-in-Constant :
    goal.resolve_expression-returns-in_err-constant_of-in-Constant
unfolding expression_breaches
resolve_expression-returns-in_err-constant_of-in-Constant t c =
    let p = err_from_is_err_and c.from_residual-in_err-constant_of-in-Constant.result
    c.from_residual-in_err-constant_of-in-Constant.ensures.1 in
    rw (p.1, p.2, c.in-Constant.is, ← expressions.rolls-Constant, fold-roll-Expression)
    (refuses (λ other. c.in_err-constant_of-in-Constant.ensures.checked))

pub resolve_element-returns-in_err-array-clause-index : goal.resolve_element-returns-in_err-array-clause-index
resolve_element-returns-in_err-array-clause-index t c =
    let p = err_from_is_err_and c.from_residual.result c.from_residual.ensures.1 in
    let array = array_breaches c.args.symbols.now c.args.name.now in
    let index = expression_breaches c.args.symbols.now true (view_expression c.args.index.now) in
    rw (p.1, p.2) (refuses (λ other. first_of_left array index _ c.in_err-array.ensures.checked))

pub resolve_element-returns-in_err-index-clause-index : goal.resolve_element-returns-in_err-index-clause-index
resolve_element-returns-in_err-index-clause-index t c =
    let p = err_from_is_err_and c.from_residual-in_err-index.result c.from_residual-in_err-index.ensures.1 in
    let array = array_breaches c.args.symbols.now c.args.name.now in
    let index = expression_breaches c.args.symbols.now true (view_expression c.args.index.now) in
    rw (p.1, p.2) (refuses (second_refuses array index _ c.in_ok-array.ensures.checked c.in_err-index.ensures.checked))

pub resolve_print-returns-in_err-format : goal.resolve_print-returns-in_err-format
resolve_print-returns-in_err-format t c =
    let p = err_from_is_err_and c.from_residual.result c.from_residual.ensures.1 in
    let given = arguments (map view_argument c.args.values.now) in
    let format = misprint_breaches c.args.for_value c.args.name.now given in
    let printed = printed_breaches c.args.symbols.now 0 given in
    rw (p.1, p.2) (refuses (first_refuses format printed _ c.in_err-format.ensures.checked))

pub resolve_print-returns-in_err-printed : goal.resolve_print-returns-in_err-printed
resolve_print-returns-in_err-printed t c =
    let p = err_from_is_err_and c.from_residual-in_err-printed.result c.from_residual-in_err-printed.ensures.1 in
    let given = arguments (map view_argument c.args.values.now) in
    let format = misprint_breaches c.args.for_value c.args.name.now given in
    let printed = printed_breaches c.args.symbols.now 0 given in
    rw (p.1, p.2) (refuses (second_refuses format printed _ c.in_ok-format.ensures.checked
    c.in_err-printed.ensures.checked))

pub resolve_own_call-returns-in_err-place : goal.resolve_own_call-returns-in_err-place
resolve_own_call-returns-in_err-place t c =
    let p = err_from_is_err_and c.from_residual.result c.from_residual.ensures.1 in
    let given = arguments (map view_argument c.args.values.now) in
    let called = call_breaches c.args.symbols.now c.args.for_value c.args.name.now (argument_count given) in
    let values = arguments_breaches c.args.symbols.now given in
    rw (p.1, p.2) (refuses (λ other. first_of_left called values _
    (rw c.argument_count.ensures at c.in_err-place.ensures.checked)))

pub resolve_own_call-returns-in_err-values : goal.resolve_own_call-returns-in_err-values
resolve_own_call-returns-in_err-values t c =
    let p = err_from_is_err_and c.from_residual-in_err-values.result c.from_residual-in_err-values.ensures.1 in
    let given = arguments (map view_argument c.args.values.now) in
    let called = call_breaches c.args.symbols.now c.args.for_value c.args.name.now (argument_count given) in
    let values = arguments_breaches c.args.symbols.now given in
    rw (p.1, p.2) (refuses (second_refuses called values _
    (rw c.argument_count.ensures at c.in_ok-place.ensures.checked) c.in_err-values.ensures.checked))

pub resolve_target-returns-in_err-resolve_scalar-in-Name : goal.resolve_target-returns-in_err-resolve_scalar-in-Name
unfolding target_breaches
resolve_target-returns-in_err-resolve_scalar-in-Name t c =
    let p = err_from_is_err_and c.from_residual.result c.from_residual.ensures.1 in
    rw (p.1, p.2, c.in-Name.is, ← expressions.rolls-Name, fold-roll-Expression)
    (refuses (λ other. c.in_err-resolve_scalar-in-Name.ensures.checked))

pub resolve_target-returns-in_err-array-in-Index : goal.resolve_target-returns-in_err-array-in-Index
unfolding target_breaches
resolve_target-returns-in_err-array-in-Index t c =
    let p = err_from_is_err_and c.from_residual-in_err-array-in-Index.result
    c.from_residual-in_err-array-in-Index.ensures.1 in
    rw (p.1, p.2, c.in-Index.is, ← expressions.rolls-Index, fold-roll-Expression)
    (refuses (rw c.deref.ensures at c.in_err-array-in-Index.ensures.index.checked))

pub resolve_target-returns-else-is_target : goal.resolve_target-returns-else-is_target
resolve_target-returns-else-is_target t c =
    let none = rw c.deref-in-Paren.ensures at (sym c.is_target.ensures ∙ c.if-is_target.false) in
    let inside = no_target_inside c.args.symbols.now c.in-Paren.open_paren (view_expression c.in-Paren.inner.value)
    c.in-Paren.close_paren none in
    let misplaced = rw (c.in-Paren.is, ← expressions.rolls-Paren, fold-roll-Expression) at c.misplaced.ensures in
    rw (c.in-Paren.is, ← expressions.rolls-Paren, fold-roll-Expression)
    (refuses (λ other. ap first_of inside ∙ misplaced))

pub resolve_target-returns-in_default : goal.resolve_target-returns-in_default
resolve_target-returns-in_default t c =
    let same = no_target c.args.symbols.now c.args.target.now c.in_default.not-Name c.in_default.not-Paren
    c.in_default.not-Index in
    refuses (λ other. ap first_of same ∙ c.misplaced-in_default.ensures)

pub resolve_expression-boxed_expression-requires-in-Binary : goal.resolve_expression-boxed_expression-requires-in-Binary
resolve_expression-boxed_expression-requires-in-Binary t c = (
  omega (
    arith,
    ap size-Expression c.in-Binary.is,
    sized-Binary c.in-Binary.left c.in-Binary.operator
        c.in-Binary.operator_span c.in-Binary.right,
    ap size-Expression c.deref-in-Binary-2.ensures,
    c.decreases,
  ),
  tt,
)

pub resolve_expression-boxed_expression-requires-in-Conditional-2 :
    goal.resolve_expression-boxed_expression-requires-in-Conditional-2
resolve_expression-boxed_expression-requires-in-Conditional-2 t c = (
  omega (
    arith,
    ap size-Expression c.in-Conditional.is,
    sized-Conditional c.in-Conditional.condition
        c.in-Conditional.question c.in-Conditional.then c.in-Conditional.colon c.in-Conditional.other,
    ap size-Expression
        c.deref-in-Conditional-2.ensures,
    c.decreases,
  ),
  tt,
)

pub resolve_expression-boxed_expression-requires-in-Conditional-3 :
    goal.resolve_expression-boxed_expression-requires-in-Conditional-3
resolve_expression-boxed_expression-requires-in-Conditional-3 t c = (
  omega (
    arith,
    ap size-Expression c.in-Conditional.is,
    sized-Conditional c.in-Conditional.condition
        c.in-Conditional.question c.in-Conditional.then c.in-Conditional.colon c.in-Conditional.other,
    ap size-Expression
        c.deref-in-Conditional-3.ensures,
    c.decreases,
  ),
  tt,
)

pub resolve_expression-boxed_expression-requires-in-Assign : goal.resolve_expression-boxed_expression-requires-in-Assign
resolve_expression-boxed_expression-requires-in-Assign t c = (
  omega (
    arith,
    ap size-Expression c.in-Assign.is,
    sized-Assign c.in-Assign.target c.in-Assign.operator
        c.in-Assign.operator_span c.in-Assign.value,
    ap size-Expression c.deref-in-Assign-2.ensures,
    c.decreases,
  ),
  tt,
)
