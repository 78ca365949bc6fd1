use Rattle.std.proofs.Common.{map, ap, arith}
use Rattle.std.proofs.lemmas.Grind.{common_steps}
use denote.Param.Weighed.{most}
use Rattle.om_scope_tree.specs.declared.resolved.ResolvedExpression.TheViews.{size-ResolvedExpression}
use Rattle.om_scope_tree.specs.declared.resolved.ResolvedExpression.TheViews.{sized-AssignElement, sized-Binary}
use Rattle.om_scope_tree.specs.declared.resolved.ResolvedExpression.TheViews.{sized-Call, sized-Conditional}
use Rattle.om_scope_tree.specs.declared.resolved.ResolvedExpression.TheViews.{sized-Print}
use Rattle.om_scope_tree.specs.ResolvedTree as trees
use Rattle.om_scope_tree.specs.ResolvedView as view
use Rattle.om_scope_tree.specs.Weights.{values_weight}
use Rattle.om_lower_tables.specs.Room.{IsRoomFor}
use Rattle.om_lower_tables.proofs.Rooms.{formats_behind, text_behind}
use Rattle.om_lower_tables.proofs.Weights.{weight_assign_element, weight_binary, weight_call, weight_conditional, weight_of}
use Rattle.om_lower_rules.specs.Mentions.{values_formats}
use Rattle.om_lower_tables.proofs.Weights.{smaller_inner, value_left, weight_inner, weight_print, with_depth}
use Rattle.om_lower_tables.proofs.mentions.+expression.Goals as goal

pub note_expression-note_values-requires : goal.note_expression-note_values-requires
unfolding IsRoomFor
note_expression-note_values-requires t c = (
  omega (
    arith,
    ap size-ResolvedExpression c.in-Call.is,
    sized-Call c.in-Call.function c.in-Call.values,
    ap (most size-ResolvedExpression) c.as_slice.ensures.value,
    c.decreases,
  ),
  omega (
    arith,
    weight_call _ _ _ c.in-Call.is,
    ap (λ es. values_weight (trees.values (map view.expression es))) c.as_slice.ensures.value,
    c.requires.room,
  ),
)

pub note_expression-note_values-requires-in-Print : goal.note_expression-note_values-requires-in-Print
unfolding IsRoomFor
note_expression-note_values-requires-in-Print t c = (
  omega (
    arith,
    ap size-ResolvedExpression c.in-Print.is,
    sized-Print c.in-Print.format c.in-Print.values,
    ap (most size-ResolvedExpression) c.as_slice-in-Print-2.ensures.value,
    c.decreases,
  ),
  omega (
    arith,
    weight_print _ _ _ c.in-Print.is,
    ap (λ es. values_weight (trees.values (map view.expression es))) c.as_slice-in-Print-2.ensures.value,
    text_behind c.as_slice-in-Print.result.now _ _ c.in_ok-note-in-Print.ensures,
    c.requires.room,
  ),
)

pub note_expression-note_expression-requires : goal.note_expression-note_expression-requires
unfolding IsRoomFor
note_expression-note_expression-requires t c = (
  omega (
    arith,
    ap size-ResolvedExpression c.in-Binary.is,
    sized-Binary c.in-Binary.left c.in-Binary.operator c.in-Binary.right,
    ap size-ResolvedExpression c.deref.ensures,
    c.decreases,
  ),
  omega (
    arith,
    weight_binary _ _ _ _ c.in-Binary.is,
    ap weight_of c.deref.ensures,
    c.requires.room,
  ),
)

pub note_expression-note_expression-requires-in-Binary : goal.note_expression-note_expression-requires-in-Binary
unfolding IsRoomFor
note_expression-note_expression-requires-in-Binary t c = (
  omega (
    arith,
    ap size-ResolvedExpression c.in-Binary.is,
    sized-Binary c.in-Binary.left c.in-Binary.operator c.in-Binary.right,
    ap size-ResolvedExpression c.deref-in-Binary.ensures,
    c.decreases,
  ),
  omega (
    arith,
    weight_binary _ _ _ _ c.in-Binary.is,
    ap weight_of c.deref.ensures,
    ap weight_of c.deref-in-Binary.ensures,
    formats_behind _ _ _ c.in_ok-note_expression-in-Binary.ensures,
    c.requires.room,
  ),
)

pub note_expression-note_expression-requires-in-Conditional :
    goal.note_expression-note_expression-requires-in-Conditional
unfolding IsRoomFor
note_expression-note_expression-requires-in-Conditional t c = (
  omega (
    arith,
    ap size-ResolvedExpression c.in-Conditional.is,
    sized-Conditional c.in-Conditional.condition c.in-Conditional.then c.in-Conditional.other,
    ap size-ResolvedExpression c.deref-in-Conditional.ensures,
    c.decreases,
  ),
  omega (
    arith,
    weight_conditional _ _ _ _ c.in-Conditional.is,
    ap weight_of c.deref-in-Conditional.ensures,
    c.requires.room,
  ),
)

pub note_expression-note_expression-requires-in-Conditional-2 :
    goal.note_expression-note_expression-requires-in-Conditional-2
unfolding IsRoomFor
note_expression-note_expression-requires-in-Conditional-2 t c = (
  omega (
    arith,
    ap size-ResolvedExpression c.in-Conditional.is,
    sized-Conditional c.in-Conditional.condition c.in-Conditional.then c.in-Conditional.other,
    ap size-ResolvedExpression c.deref-in-Conditional-2.ensures,
    c.decreases,
  ),
  omega (
    arith,
    weight_conditional _ _ _ _ c.in-Conditional.is,
    ap weight_of c.deref-in-Conditional.ensures,
    ap weight_of c.deref-in-Conditional-2.ensures,
    formats_behind _ _ _ c.in_ok-note_expression-in-Conditional.ensures,
    c.requires.room,
  ),
)

pub note_expression-note_expression-requires-in-Conditional-3 :
    goal.note_expression-note_expression-requires-in-Conditional-3
unfolding IsRoomFor
note_expression-note_expression-requires-in-Conditional-3 t c = (
  omega (
    arith,
    ap size-ResolvedExpression c.in-Conditional.is,
    sized-Conditional c.in-Conditional.condition c.in-Conditional.then c.in-Conditional.other,
    ap size-ResolvedExpression c.deref-in-Conditional-3.ensures,
    c.decreases,
  ),
  omega (
    arith,
    weight_conditional _ _ _ _ c.in-Conditional.is,
    ap weight_of c.deref-in-Conditional.ensures,
    ap weight_of c.deref-in-Conditional-2.ensures,
    ap weight_of c.deref-in-Conditional-3.ensures,
    formats_behind _ _ _ c.in_ok-note_expression-in-Conditional.ensures,
    formats_behind _ _ _ c.in_ok-note_expression-in-Conditional-2.ensures,
    c.requires.room,
  ),
)

pub note_expression-note_expression-requires-in-AssignElement :
    goal.note_expression-note_expression-requires-in-AssignElement
unfolding IsRoomFor
note_expression-note_expression-requires-in-AssignElement t c = (
  omega (
    arith,
    ap size-ResolvedExpression c.in-AssignElement.is,
    sized-AssignElement c.in-AssignElement.array c.in-AssignElement.index c.in-AssignElement.operator
        c.in-AssignElement.value,
    ap size-ResolvedExpression c.deref-in-AssignElement.ensures,
    c.decreases,
  ),
  omega (
    arith,
    weight_assign_element _ _ _ _ _ c.in-AssignElement.is,
    ap weight_of c.deref-in-AssignElement.ensures,
    c.requires.room,
  ),
)

pub note_expression-note_expression-requires-in-AssignElement-2 :
    goal.note_expression-note_expression-requires-in-AssignElement-2
unfolding IsRoomFor
note_expression-note_expression-requires-in-AssignElement-2 t c = (
  omega (
    arith,
    ap size-ResolvedExpression c.in-AssignElement.is,
    sized-AssignElement c.in-AssignElement.array c.in-AssignElement.index c.in-AssignElement.operator
        c.in-AssignElement.value,
    ap size-ResolvedExpression c.deref-in-AssignElement-2.ensures,
    c.decreases,
  ),
  omega (
    arith,
    weight_assign_element _ _ _ _ _ c.in-AssignElement.is,
    ap weight_of c.deref-in-AssignElement.ensures,
    ap weight_of c.deref-in-AssignElement-2.ensures,
    formats_behind _ _ _ c.in_ok-note_expression-in-AssignElement.ensures,
    c.requires.room,
  ),
)

pub note_values-loop-value-preserved : goal.note_values-loop-value-preserved
unfolding values_formats IsRoomFor
note_values-loop-value-preserved t c = (
  grind (arith, common_steps),
  omega (
    arith,
    value_left c.args.values.now c.loop-value.value-index c.value-item.result c.loop-value-test.true c.value-item.is,
    formats_behind (view.expression c.value-item.result) c.loop-value.formats c.note_expression.new.formats
        c.in_ok-note_expression.ensures,
    c.loop-value.invariant.1,
  ),
)

pub note_expression-note-requires : goal.note_expression-note-requires
unfolding IsRoomFor
note_expression-note-requires t c = omega (arith, weight_print _ _ _ c.in-Print.is, c.requires.room)

pub note_expression-note_expression-requires-in-Element : goal.note_expression-note_expression-requires-in-Element
unfolding IsRoomFor
note_expression-note_expression-requires-in-Element t c = (
  omega (
    arith,
    smaller_inner _ _ c.in-Element.is,
    ap size-ResolvedExpression c.deref-in-Element.ensures,
    c.decreases,
  ),
  omega (arith, weight_inner _ _ c.in-Element.is, ap weight_of c.deref-in-Element.ensures, c.requires.room),
)

pub note_values-note_expression-requires : goal.note_values-note_expression-requires
unfolding IsRoomFor
note_values-note_expression-requires t c = (
  with_depth _ _ _ c.args.values.now c.loop-value.value-index c.value-item.result c.loop-value-test.true
      c.value-item.is c.decreases (λ deep. omega (arith, deep, c.decreases)),
  omega (
    arith,
    value_left c.args.values.now c.loop-value.value-index c.value-item.result c.loop-value-test.true c.value-item.is,
    c.loop-value.invariant.1,
  ),
)
