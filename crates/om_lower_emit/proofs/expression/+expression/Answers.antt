use Rattle.std.proofs.Common.{◌≡◌, ◌≤◌, get_or, rules, ap, sym, ◌∙◌, arith, true}
use Rattle.std.proofs.lemmas.Result.{on_ok_weaker}
use Rattle.om_code.specs.declared.instruction.Instr.TheVariants as i
use Rattle.om_code.specs.declared.instruction.Serial.TheVariants as serials
use Rattle.om_code.specs.declared.instruction.Team.TheVariants as teams
use Rattle.om_lower_emit.specs.Elements.{emits_element_assigned, target_is}
use Rattle.om_lower_emit.specs.Emits.{listed, names_at}
use Rattle.om_lower_emit.specs.Forms.{form}
use Rattle.om_lower_emit.specs.Writing.{emits_one, fresh_length, free_new, free_fresh, free_put, free_put_all, free_part, free_define}
use Rattle.om_lower_emit.specs.Arguments.{counted, few, with_depth, has_code, emits_next}
use Rattle.om_lower_emit.proofs.Expressions.{emits_element, emits_used_call, emits_right, emits_unary, emits_set}
use Rattle.om_lower_emit.proofs.Expressions.{emits_compound, emits_set_element, emits_compound_element, emits_call}
use Rattle.om_lower_emit.proofs.Expressions.{emits_binary, rest_is, emits_postfix_element, value_is}
use Rattle.om_lower_emit.proofs.Jumping.{emits_both, emits_either, emits_conditional}
use Rattle.om_lower_emit.proofs.Singles.{emits_constant}
use Rattle.om_lower_emit.specs.Views.{view_constant, view_variable, view_element, view_thread_number, view_team_size}
use Rattle.om_lower_emit.specs.Views.{view_call, view_unary, view_binary, view_conditional, view_assign_element, view_postfix_element}
use Rattle.om_scope_tree.specs.ResolvedTree as trees
use Rattle.om_scope_tree.specs.ResolvedView as view
use Rattle.om_lower_rules.specs.Expressions.{value}
use Rattle.om_lower_rules.specs.Operators.{Both, Either, Plain, form_of, compound_of}
use Rattle.om_lower_rules.specs.Slots.{place_of}
use Rattle.om_lower_emit.proofs.expression.+expression.Goals as goal

pub call-returns : goal.call-returns
call-returns t c =
    on_ok_weaker c.put.result
    (λ h. emits_call (names_at c.args.here.now) c.args.here.now.at.line c.args.function
    (listed c.args.arguments.now) c.called_body-body.result _ _ _ _
    c.called_body-body.ensures (counted c.args.arguments.now) c.in_ok-values.ensures h)
    c.put.ensures

pub call-overflow_cast-values : goal.call-overflow_cast-values
call-overflow_cast-values t c = omega (arith, few c.args.arguments.now c.requires)

-- ---- operators between two operands

pub binary_end-returns-in-Both : goal.binary_end-returns-in-Both
binary_end-returns-in-Both t c =
    on_ok_weaker c.both_end.result
    (rest_is (names_at c.args.here.now) c.args.here.now.at.line Both (form_of c.args.operator)
    (view.expression c.args.right.now) _ _
    (ap form (sym c.in-Both.is) ∙ c.form_of.ensures))
    c.both_end.ensures

pub binary_end-returns-in-Either : goal.binary_end-returns-in-Either
binary_end-returns-in-Either t c =
    on_ok_weaker c.either_end.result
    (rest_is (names_at c.args.here.now) c.args.here.now.at.line Either (form_of c.args.operator)
    (view.expression c.args.right.now) _ _
    (ap form (sym c.in-Either.is) ∙ c.form_of.ensures))
    c.either_end.ensures

pub binary_end-returns-in_ok-value-in-Plain : goal.binary_end-returns-in_ok-value-in-Plain
binary_end-returns-in_ok-value-in-Plain t c =
    on_ok_weaker c.put.result
    (λ h. rest_is (names_at c.args.here.now) c.args.here.now.at.line (Plain c.in-Plain.operator) (form_of c.args.operator)
    (view.expression c.args.right.now) _ _
    (ap form (sym c.in-Plain.is) ∙ c.form_of.ensures)
    (emits_right (names_at c.args.here.now) c.args.here.now.at.line c.in-Plain.operator
    (view.expression c.args.right.now) _ _ _
    c.in_ok-value-in-Plain.ensures h))
    c.put.ensures

pub both_end-truth-requires : goal.both_end-truth-requires
both_end-truth-requires t c =
    let f = c.in_ok-not_both.not_both in
    let e = c.in_ok-end.end in
    let past = fresh_length _ _ _ c.in_ok-not_both.ensures in
    record {
      otherwise = free_part f _ _ _ c.in_ok-value.ensures (free_put f _ _ _ _ c.in_ok-put_jump.ensures
          (free_fresh f _ _ _ c.in_ok-end.ensures (free_new f _ _ c.in_ok-not_both.ensures)));
      over = free_part e _ _ _ c.in_ok-value.ensures (free_put e _ _ _ _ c.in_ok-put_jump.ensures
          (free_new e _ _ c.in_ok-end.ensures));
      apart = omega (arith, c.in_ok-not_both.ensures.is, c.in_ok-end.ensures.is, past);
    }

pub both_end-returns : goal.both_end-returns
both_end-returns t c =
    let names = names_at c.args.here.now in
    on_ok_weaker c.truth.result
    (λ h. emits_both names c.args.here.now.at.line (view.expression c.args.right.now)
    c.in_ok-not_both.not_both c.in_ok-end.end _ _ _ _ _ _
    c.in_ok-not_both.ensures c.in_ok-end.ensures c.in_ok-put_jump.ensures c.in_ok-value.ensures h)
    (c.truth.ensures names)

pub either_end-define-requires : goal.either_end-define-requires
either_end-define-requires t c =
    let l = c.in_ok-next.next in
    free_put_all l _ _ _ _ c.in_ok-one_unless_zero.ensures
    (free_fresh l _ _ _ c.in_ok-end.ensures (free_fresh l _ _ _ c.in_ok-neither.ensures
    (free_new l _ _ c.in_ok-next.ensures)))

pub either_end-truth-requires : goal.either_end-truth-requires
either_end-truth-requires t c =
    let n = c.in_ok-next.next in
    let f = c.in_ok-neither.neither in
    let e = c.in_ok-end.end in
    let past = fresh_length _ _ _ c.in_ok-next.ensures in
    let beyond = fresh_length _ _ _ c.in_ok-neither.ensures in
    record {
      otherwise = free_part f _ _ _ c.in_ok-value.ensures
          (free_define f n _ _ (λ same. omega (arith, c.in_ok-next.ensures.is, c.in_ok-neither.ensures.is, past, same))
          c.define.ensures (free_put_all f _ _ _ _ c.in_ok-one_unless_zero.ensures
          (free_fresh f _ _ _ c.in_ok-end.ensures (free_new f _ _ c.in_ok-neither.ensures))));
      over = free_part e _ _ _ c.in_ok-value.ensures
          (free_define e n _ _ (λ same. omega
          (arith, c.in_ok-next.ensures.is, c.in_ok-end.ensures.is, past, beyond, same))
          c.define.ensures (free_put_all e _ _ _ _ c.in_ok-one_unless_zero.ensures (free_new e _ _ c.in_ok-end.ensures)));
      apart = omega (arith, c.in_ok-neither.ensures.is, c.in_ok-end.ensures.is, beyond);
    }

pub either_end-returns : goal.either_end-returns
either_end-returns t c =
    let names = names_at c.args.here.now in
    on_ok_weaker c.truth.result
    (λ h. emits_either names c.args.here.now.at.line (view.expression c.args.right.now)
    c.in_ok-next.next c.in_ok-neither.neither c.in_ok-end.end _ _ _ _ _ _ _ _
    c.in_ok-next.ensures c.in_ok-neither.ensures c.in_ok-end.ensures c.in_ok-one_unless_zero.ensures c.define.ensures
    c.in_ok-value.ensures h)
    (c.truth.ensures names)

-- ---- assignments

pub assign-returns-in_ok-value-in-None : goal.assign-returns-in_ok-value-in-None
assign-returns-in_ok-value-in-None t c =
    on_ok_weaker c.store.result
    (λ h. emits_set (names_at c.args.here.now) c.args.here.now.at.line c.args.target.keeps c.args.target.variable
    c.args.target.operator (view.expression c.args.e.now) _ _ _ (sym c.in-None.is ∙ c.compound_of.ensures)
    c.in_ok-value-in-None.ensures h)
    c.store.ensures

pub assign-returns-in_ok-put-in-Some : goal.assign-returns-in_ok-put-in-Some
assign-returns-in_ok-put-in-Some t c =
    on_ok_weaker c.store-in-Some.result
    (λ h. emits_compound (names_at c.args.here.now) c.args.here.now.at.line c.args.target.keeps c.args.target.variable
    c.args.target.operator _ (view.expression c.args.e.now) _ _ _ _ _
    (sym c.in-Some.is ∙ c.compound_of.ensures) c.in_ok-load-in-Some.ensures
    c.in_ok-value-in-Some.ensures c.in_ok-put-in-Some.ensures h)
    c.store-in-Some.ensures

pub assign_element-returns-in_ok-value-in-None : goal.assign_element-returns-in_ok-value-in-None
assign_element-returns-in_ok-value-in-None t c =
    on_ok_weaker c.put.result
    (λ h. emits_set_element (names_at c.args.here.now) c.args.here.now.at.line c.args.target.keeps c.args.target.variable
    c.args.target.operator _ (view.expression c.args.e.now) _ _ _ (sym c.in-None.is ∙ c.compound_of.ensures)
    c.place-place.ensures c.in_ok-value-in-None.ensures h)
    c.put.ensures

pub assign_element-returns-in_ok-value-in-Some : goal.assign_element-returns-in_ok-value-in-Some
assign_element-returns-in_ok-value-in-Some t c =
    on_ok_weaker c.put_all-in-Some.result
    (λ h. emits_compound_element (names_at c.args.here.now) c.args.here.now.at.line c.args.target.keeps
    c.args.target.variable c.args.target.operator _ _ (view.expression c.args.e.now) _ _ _ _
    (sym c.in-Some.is ∙ c.compound_of.ensures) c.place-place.ensures c.in_ok-put_all-in-Some.ensures
    c.in_ok-value-in-Some.ensures h)
    c.put_all-in-Some.ensures

-- ---- what a call is on is the same, and has code

pub binary_end-both_end-requires : goal.binary_end-both_end-requires
binary_end-both_end-requires t c = (omega (arith, c.decreases), c.requires)

pub binary_end-either_end-requires : goal.binary_end-either_end-requires
binary_end-either_end-requires t c = (omega (arith, c.decreases), c.requires)

pub binary_end-value-requires : goal.binary_end-value-requires
binary_end-value-requires t c = (omega (arith, c.decreases), c.requires)

pub both_end-value-requires : goal.both_end-value-requires
both_end-value-requires t c = (omega (arith, c.decreases), c.requires)

pub either_end-value-requires : goal.either_end-value-requires
either_end-value-requires t c = (omega (arith, c.decreases), c.requires)

pub assign-value-requires : goal.assign-value-requires
assign-value-requires t c = (omega (arith, c.decreases), c.requires)

pub assign-value-requires-in-Some : goal.assign-value-requires-in-Some
assign-value-requires-in-Some t c = (omega (arith, c.decreases), c.requires)

pub assign_element-value-requires : goal.assign_element-value-requires
assign_element-value-requires t c = (omega (arith, c.decreases), c.requires)

pub assign_element-value-requires-in-Some : goal.assign_element-value-requires-in-Some
assign_element-value-requires-in-Some t c = (omega (arith, c.decreases), c.requires)

pub call-values-requires : goal.call-values-requires
call-values-requires t c = (omega (arith, c.decreases), c.requires.1)

-- ---- the values of a call

pub values-value-requires : goal.values-value-requires
values-value-requires t c = (
  with_depth _ _ _ c.args.es.now c.loop-e.e-index c.e-item.result c.loop-e-test.true c.e-item.is c.decreases
      (λ deep. omega (arith, deep, c.decreases)),
  has_code c.args.es.now c.loop-e.e-index c.e-item.result
      c.loop-e-test.true c.e-item.is c.requires,
)

pub values-loop-e-preserved : goal.values-loop-e-preserved
values-loop-e-preserved t c = (
  omega (arith, c.loop-e.invariant.0, c.in_ok-value.ensures.keeps.more),
  λ d g. c.loop-e.invariant.1 d
      (emits_next _ _ _ _ _ _ _ _ _ c.loop-e-test.true c.e-item.is c.loop-e.invariant.0 c.in_ok-value.ensures g),
)

-- ---- the forms

pub value-returns-in-Constant : goal.value-returns-in-Constant
value-returns-in-Constant t c =
    let names = names_at c.args.here.now in
    let is = ap view.expression c.in-Constant.is ∙ view_constant c.in-Constant.number in
    on_ok_weaker c.put.result
    (λ h. value_is names c.args.here.now.at.line (trees.Constant c.in-Constant.number)
    (view.expression c.args.e.now) _ _ (sym is)
    (emits_constant names c.args.here.now.at.line c.in-Constant.number _ _ _ (search rules) h))
    c.put.ensures

pub value-returns-in-Variable : goal.value-returns-in-Variable
value-returns-in-Variable t c =
    let names = names_at c.args.here.now in
    let is = ap view.expression c.in-Variable.is ∙ view_variable c.in-Variable.variable in
    on_ok_weaker c.load.result
    (λ h. value_is names c.args.here.now.at.line (trees.Variable c.in-Variable.variable)
    (view.expression c.args.e.now) _ _ (sym is)
    (emits_one names c.args.here.now.at.line (i.Serial (serials.Load (place_of names.slots c.in-Variable.variable))) _ _ h))
    c.load.ensures

pub value-returns-in-ThreadNumber : goal.value-returns-in-ThreadNumber
value-returns-in-ThreadNumber t c =
    let names = names_at c.args.here.now in
    let is = ap view.expression c.in-ThreadNumber.is ∙ view_thread_number in
    on_ok_weaker c.put-in-ThreadNumber.result
    (λ h. value_is names c.args.here.now.at.line trees.ThreadNumber (view.expression c.args.e.now) _ _ (sym is)
    (emits_one names c.args.here.now.at.line (i.Team teams.ThreadNumber) _ _ h))
    c.put-in-ThreadNumber.ensures

pub value-returns-in-TeamSize : goal.value-returns-in-TeamSize
value-returns-in-TeamSize t c =
    let names = names_at c.args.here.now in
    let is = ap view.expression c.in-TeamSize.is ∙ view_team_size in
    on_ok_weaker c.put-in-TeamSize.result
    (λ h. value_is names c.args.here.now.at.line trees.TeamSize (view.expression c.args.e.now) _ _ (sym is)
    (emits_one names c.args.here.now.at.line (i.Team teams.TeamSize) _ _ h))
    c.put-in-TeamSize.ensures

pub value-returns-in_ok-value-in-Element : goal.value-returns-in_ok-value-in-Element
value-returns-in_ok-value-in-Element t c =
    let names = names_at c.args.here.now in
    let j = c.deref.result.now in
    let x = c.in-Element.array in
    let is = ap view.expression c.in-Element.is ∙ view_element x c.in-Element.index in
    let same = ap (λ z. trees.Element x (view.expression z)) c.deref.ensures in
    on_ok_weaker c.load_element.result
    (λ h. value_is names c.args.here.now.at.line (trees.Element x (view.expression j))
    (view.expression c.args.e.now) _ _ (same ∙ sym is)
    (emits_element names c.args.here.now.at.line x (view.expression j) _ _ _
    c.in_ok-value-in-Element.ensures h))
    c.load_element.ensures

pub value-returns-in_ok-call-in-Call : goal.value-returns-in_ok-call-in-Call
value-returns-in_ok-call-in-Call t c =
    let names = names_at c.args.here.now in
    let is = ap view.expression c.in-Call.is ∙ view_call c.in-Call.function c.in-Call.values in
    let same = ap (λ es. trees.Call c.in-Call.function (listed es)) c.as_slice.ensures.value in
    on_ok_weaker c.put-in-Call.result
    (λ h. value_is names c.args.here.now.at.line (trees.Call c.in-Call.function (listed c.as_slice.result.now))
    (view.expression c.args.e.now) _ _ (same ∙ sym is)
    (emits_used_call names c.args.here.now.at.line c.in-Call.function (listed c.as_slice.result.now) _ _ _
    c.in_ok-call-in-Call.ensures h))
    c.put-in-Call.ensures

pub value-returns-in_ok-value-in-Unary : goal.value-returns-in_ok-value-in-Unary
value-returns-in_ok-value-in-Unary t c =
    let names = names_at c.args.here.now in
    let e = c.deref-in-Unary.result.now in
    let o = c.in-Unary.operator in
    let is = ap view.expression c.in-Unary.is ∙ view_unary o c.in-Unary.operand in
    let same = ap (λ z. trees.Unary o (view.expression z)) c.deref-in-Unary.ensures in
    on_ok_weaker c.unary_end.result
    (λ h. value_is names c.args.here.now.at.line (trees.Unary o (view.expression e))
    (view.expression c.args.e.now) _ _ (same ∙ sym is)
    (emits_unary names c.args.here.now.at.line o (view.expression e) _ _ _
    c.in_ok-value-in-Unary.ensures h))
    c.unary_end.ensures

pub value-returns-in_ok-value-in-Binary : goal.value-returns-in_ok-value-in-Binary
value-returns-in_ok-value-in-Binary t c =
    let names = names_at c.args.here.now in
    let left = c.deref-in-Binary.result.now in
    let right = c.deref-in-Binary-2.result.now in
    let is = ap view.expression c.in-Binary.is
    ∙ view_binary c.in-Binary.left c.in-Binary.operator c.in-Binary.right in
    let same =
    ap (λ e. trees.Binary (view.expression e) c.in-Binary.operator
    (view.expression right)) c.deref-in-Binary.ensures
    ∙ ap (λ e. trees.Binary (view.expression c.in-Binary.left.value) c.in-Binary.operator
    (view.expression e)) c.deref-in-Binary-2.ensures in
    on_ok_weaker c.binary_end.result
    (λ h. value_is names c.args.here.now.at.line (trees.Binary (view.expression left) c.in-Binary.operator
    (view.expression right)) (view.expression c.args.e.now)
    _ _ (same ∙ sym is)
    (emits_binary names c.args.here.now.at.line c.in-Binary.operator (view.expression left)
    (view.expression right) _ _ _
    c.in_ok-value-in-Binary.ensures h))
    c.binary_end.ensures

pub value-define-requires : goal.value-define-requires
value-define-requires t c =
    let l = c.in_ok-otherwise-in-Conditional.otherwise in
    free_put l _ _ _ _ c.in_ok-put_jump-in-Conditional-2.ensures (free_part l _ _ _ c.in_ok-value-in-Conditional-2.ensures
    (free_put l _ _ _ _ c.in_ok-put_jump-in-Conditional.ensures (free_part l _ _ _ c.in_ok-value-in-Conditional.ensures
    (free_fresh l _ _ _ c.in_ok-end-in-Conditional.ensures
    (free_new l _ _ c.in_ok-otherwise-in-Conditional.ensures)))))

pub value-define-requires-in-Conditional : goal.value-define-requires-in-Conditional
value-define-requires-in-Conditional t c =
    let l = c.in_ok-end-in-Conditional.end in
    let past = fresh_length _ _ _ c.in_ok-otherwise-in-Conditional.ensures in
    free_part l _ _ _ c.in_ok-value-in-Conditional-3.ensures
    (free_define l c.in_ok-otherwise-in-Conditional.otherwise _ _
    (λ same. omega (
      arith,
      c.in_ok-otherwise-in-Conditional.ensures.is,
      c.in_ok-end-in-Conditional.ensures.is,
      past,
      same,
    )) c.define.ensures
    (free_put l _ _ _ _ c.in_ok-put_jump-in-Conditional-2.ensures (free_part l _ _ _ c.in_ok-value-in-Conditional-2.ensures
    (free_put l _ _ _ _ c.in_ok-put_jump-in-Conditional.ensures (free_part l _ _ _ c.in_ok-value-in-Conditional.ensures
    (free_new l _ _ c.in_ok-end-in-Conditional.ensures))))))

pub value-returns-in_ok-value-in-Conditional-3 : goal.value-returns-in_ok-value-in-Conditional-3
value-returns-in_ok-value-in-Conditional-3 t c =
    let names = names_at c.args.here.now in
    let a = c.deref-in-Conditional.result.now in
    let b = c.deref-in-Conditional-2.result.now in
    let d = c.deref-in-Conditional-3.result.now in
    let at_a = c.in-Conditional.condition in
    let at_b = c.in-Conditional.then in
    let at_d = c.in-Conditional.other in
    let is = ap view.expression c.in-Conditional.is ∙ view_conditional at_a at_b at_d in
    let same =
    ap (λ e. trees.Conditional (view.expression e) (view.expression b)
    (view.expression d)) c.deref-in-Conditional.ensures
    ∙ ap (λ e. trees.Conditional (view.expression at_a.value) (view.expression e)
    (view.expression d)) c.deref-in-Conditional-2.ensures
    ∙ ap (λ e. trees.Conditional (view.expression at_a.value) (view.expression at_b.value)
    (view.expression e)) c.deref-in-Conditional-3.ensures in
    value_is names c.args.here.now.at.line (trees.Conditional (view.expression a) (view.expression b)
    (view.expression d)) (view.expression c.args.e.now)
    _ _ (same ∙ sym is)
    (emits_conditional names c.args.here.now.at.line (view.expression a) (view.expression b)
    (view.expression d)
    c.in_ok-otherwise-in-Conditional.otherwise c.in_ok-end-in-Conditional.end _ _ _ _ _ _ _ _ _ _
    c.in_ok-otherwise-in-Conditional.ensures c.in_ok-end-in-Conditional.ensures c.in_ok-value-in-Conditional.ensures
    c.in_ok-put_jump-in-Conditional.ensures
    c.in_ok-value-in-Conditional-2.ensures c.in_ok-put_jump-in-Conditional-2.ensures c.define.ensures
    c.in_ok-value-in-Conditional-3.ensures
    c.define-in-Conditional.ensures)

pub value-returns-in_ok-value-in-AssignElement : goal.value-returns-in_ok-value-in-AssignElement
value-returns-in_ok-value-in-AssignElement t c =
    let names = names_at c.args.here.now in
    let j = c.deref-in-AssignElement.result.now in
    let e = c.deref-in-AssignElement-2.result.now in
    let x = c.in-AssignElement.array in
    let o = c.in-AssignElement.operator in
    let is = ap view.expression c.in-AssignElement.is
    ∙ view_assign_element x c.in-AssignElement.index o c.in-AssignElement.e in
    let same =
    ap (λ z. trees.AssignElement x (view.expression z) o
    (view.expression e)) c.deref-in-AssignElement.ensures
    ∙ ap (λ z. trees.AssignElement x (view.expression c.in-AssignElement.index.value) o
    (view.expression z)) c.deref-in-AssignElement-2.ensures in
    on_ok_weaker c.assign_element.result
    (λ h. value_is names c.args.here.now.at.line (trees.AssignElement x (view.expression j) o (view.expression e))
    (view.expression c.args.e.now)
    _ _ (same ∙ sym is)
    (emits_element_assigned names c.args.here.now.at.line true x (view.expression j) (compound_of o)
    (λ at. value at c.args.here.now.at.line (view.expression e)) _ _ _
    c.in_ok-value-in-AssignElement.ensures
    (target_is names c.args.here.now.at.line (view.expression e) c.assigned-in-AssignElement.result
    (record { variable = x; operator = o; keeps = true }) _ _ c.assigned-in-AssignElement.ensures h)))
    c.assign_element.ensures

pub value-returns-in_ok-value-in-PostfixElement : goal.value-returns-in_ok-value-in-PostfixElement
value-returns-in_ok-value-in-PostfixElement t c =
    let names = names_at c.args.here.now in
    let j = c.deref-in-PostfixElement.result.now in
    let x = c.in-PostfixElement.array in
    let o = c.in-PostfixElement.operator in
    let is = ap view.expression c.in-PostfixElement.is
    ∙ view_postfix_element x c.in-PostfixElement.index o in
    let same = ap (λ z. trees.PostfixElement x (view.expression z) o) c.deref-in-PostfixElement.ensures in
    on_ok_weaker c.postfix_element.result
    (λ h. value_is names c.args.here.now.at.line (trees.PostfixElement x (view.expression j) o)
    (view.expression c.args.e.now) _ _ (same ∙ sym is)
    (emits_postfix_element names c.args.here.now.at.line x (view.expression j) o _ _ _
    c.in_ok-value-in-PostfixElement.ensures h))
    c.postfix_element.ensures
