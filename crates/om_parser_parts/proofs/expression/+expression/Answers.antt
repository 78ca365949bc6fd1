use Rattle.std.proofs.Common.{◌≡◌, ◌-◌, ◌∷◌, ◌++◌, [], Some, true, length, map, sym, inr, refl, arith, rules}
use Rattle.std.proofs.lemmas.List.{map_push}
use Rattle.std.proofs.lemmas.Result.{err_from_is_err_and}
use Rattle.om_lexer.specs.declared.token.Punctuator.TheVariants.{CloseParen}
use Rattle.om_parser_parts.specs.ExpressionReading.{argument_at, arguments_at, binary_at, binary_more, chain_at}
use Rattle.om_parser_parts.specs.ExpressionReading.{expression_at, call_after, arguments_after, within, named_after}
use Rattle.om_parser_parts.specs.ExpressionReading.{index_after, primary_step, paren_after, expression_after}
use Rattle.om_parser_parts.specs.ExpressionReading.{operand_at}
use Rattle.om_parser_parts.specs.Loops.{until_ends, until_fails, until_goes_on}
use Rattle.om_parser_parts.specs.Reading.{take_mark, too_deep}
use Rattle.om_parser_parts.specs.Taken.{mark_shorter}
use Rattle.om_parser_tree.specs.CallViews.{view_call}
use Rattle.om_parser_tree.specs.Tree.{Binary}
use Rattle.om_parser_tree.specs.View.{view_argument, view_expression}
use Rattle.om_parser_parts.proofs.Chains.{binary_on, binary_shorter, operand_shorter, argument_shorter, fails_or}
use Rattle.om_parser_parts.proofs.Chains.{binary_stops}
use Rattle.om_parser_parts.proofs.Chains.{chain_ends, chain_stops, chain_goes_on, no_binary, binary_over, binary_fails}
use Rattle.om_parser_parts.proofs.Chains.{level_stops, level_ends, turn_goes_on}
use Rattle.om_parser_parts.proofs.expression.+expression.Goals as goal

pub expression-returns : goal.expression-returns
expression-returns t c =
    rw (turn_goes_on c.args.budget.beyond c.args.budget.turns c.in-Some.turns c.args.budget.room c.args.may_assign
    c.args.tokens.now (view_expression c.in_ok-left.left.value) c.in_ok-left.rest.now
    (omega (arith, c.in-Some.ensures)) c.in_ok-left.ensures) c.expression_after.ensures

pub binary-returns-in_err-left : goal.binary-returns-in_err-left
unfolding binary_at
binary-returns-in_err-left t c =
    let p = err_from_is_err_and c.from_residual.result c.from_residual.ensures.1 in
    rw (p.1, p.2) (fails_or c.in_err-left.field-0.0 c.in_err-left.ensures
    (λ fails. binary_stops c.args.budget.beyond (operand_at c.args.budget.beyond c.args.budget.turns
    c.args.budget.room) c.args.tokens.now c.in_err-left.field-0.0 0 c.args.levels (omega arith) fails))

pub binary-levels-init : goal.binary-levels-init
unfolding binary_at
binary-levels-init t c = c.in_ok-left.ensures

pub binary-returns-in_err-joined : goal.binary-returns-in_err-joined
binary-returns-in_err-joined t c =
    let p = err_from_is_err_and c.from_residual-in_err-joined.result c.from_residual-in_err-joined.ensures.1 in
    rw (p.1, p.2) (fails_or c.in_err-joined.field-0.0 c.in_err-joined.ensures
    (λ fails. level_stops c.args.budget.beyond (operand_at c.args.budget.beyond c.args.budget.turns
    c.args.budget.room) c.args.tokens.now c.levels.tighter (view_expression c.levels.left.value)
    c.levels.rest.now c.levels.invariant c.in_err-joined.field-0.0 c.args.levels c.levels-test.true fails))

pub binary-levels-preserved : goal.binary-levels-preserved
binary-levels-preserved t c = level_ends c.args.budget.beyond (operand_at c.args.budget.beyond c.args.budget.turns
    c.args.budget.room) c.args.tokens.now c.levels.tighter (view_expression c.levels.left.value) c.levels.rest.now
    c.levels.invariant (view_expression c.in_ok-joined.joined.value) c.in_ok-joined.others.now c.in_ok-joined.ensures

pub operators-returns-in_err-within : goal.operators-returns-in_err-within
operators-returns-in_err-within t c =
    let p = err_from_is_err_and c.from_residual.result c.from_residual.ensures.1 in
    let operands = binary_at c.args.budget.beyond (operand_at c.args.budget.beyond c.args.budget.turns
    c.args.budget.room) c.args.tighter in
    let more = binary_more c.args.budget.beyond (8 - c.args.tighter) operands in
    let total = chain_at more (length c.args.tokens.now) (view_expression c.args.operand.value) c.args.tokens.now in
    let left = view_expression c.loop-operator.left.value in
    let rest = c.loop-operator.rest.now in
    let over = c.in_err-within.ensures in
    let taken = sym c.in-Some.ensures in
    let lt = binary_shorter (8 - c.args.tighter) rest c.in-Some.operator c.in-Some.at c.in-Some.others.now taken in
    rw (p.1, p.2, over.1)
    (inr (chain_stops more left rest total (too_deep c.in-Some.at)
    (binary_over c.args.budget.beyond (8 - c.args.tighter) operands left rest c.in-Some.operator c.in-Some.at
    c.in-Some.others.now taken over.0) (omega (arith, lt)) c.loop-operator.invariant))

pub operators-returns-in_err-right : goal.operators-returns-in_err-right
operators-returns-in_err-right t c =
    let p = err_from_is_err_and c.from_residual-in_err-right.result c.from_residual-in_err-right.ensures.1 in
    let operands = binary_at c.args.budget.beyond (operand_at c.args.budget.beyond c.args.budget.turns
    c.args.budget.room) c.args.tighter in
    let more = binary_more c.args.budget.beyond (8 - c.args.tighter) operands in
    let total = chain_at more (length c.args.tokens.now) (view_expression c.args.operand.value) c.args.tokens.now in
    let left = view_expression c.loop-operator.left.value in
    let rest = c.loop-operator.rest.now in
    let taken = sym c.in-Some.ensures in
    let lt = binary_shorter (8 - c.args.tighter) rest c.in-Some.operator c.in-Some.at c.in-Some.others.now taken in
    rw (p.1, p.2) (fails_or c.in_err-right.field-0.0 c.in_err-right.ensures (λ fails. chain_stops more left rest
    total c.in_err-right.field-0.0 (binary_fails c.args.budget.beyond (8 - c.args.tighter) operands left rest
    c.in-Some.operator c.in-Some.at c.in-Some.others.now taken c.in_err-right.field-0.0 c.in_ok-within.ensures
    fails) (omega (arith, lt)) c.loop-operator.invariant))

pub operators-loop-operator-smaller : goal.operators-loop-operator-smaller
operators-loop-operator-smaller t c =
    let lt = binary_shorter (8 - c.args.tighter) c.loop-operator.rest.now c.in-Some.operator c.in-Some.at
    c.in-Some.others.now (sym c.in-Some.ensures) in
    let le = operand_shorter c.args.budget.beyond c.args.budget.turns c.args.budget.room c.args.tighter
    c.in-Some.others.now (view_expression c.in_ok-right.right.value) c.in_ok-right.others.now
    c.in_ok-right.ensures in
    omega (arith, lt, le)

pub operators-loop-operator-preserved : goal.operators-loop-operator-preserved
operators-loop-operator-preserved t c =
    let operands = binary_at c.args.budget.beyond (operand_at c.args.budget.beyond c.args.budget.turns
    c.args.budget.room) c.args.tighter in
    let more = binary_more c.args.budget.beyond (8 - c.args.tighter) operands in
    let total = chain_at more (length c.args.tokens.now) (view_expression c.args.operand.value) c.args.tokens.now in
    let left = view_expression c.loop-operator.left.value in
    let right = view_expression c.in_ok-right.right.value in
    let rest = c.loop-operator.rest.now in
    let taken = sym c.in-Some.ensures in
    let lt = binary_shorter (8 - c.args.tighter) rest c.in-Some.operator c.in-Some.at c.in-Some.others.now taken in
    let le = operand_shorter c.args.budget.beyond c.args.budget.turns c.args.budget.room c.args.tighter
    c.in-Some.others.now right c.in_ok-right.others.now c.in_ok-right.ensures in
    rw c.in_ok-left.ensures (chain_goes_on more left rest total (Binary left c.in-Some.operator c.in-Some.at right)
    c.in_ok-right.others.now (binary_on c.args.budget.beyond (8 - c.args.tighter) operands left rest
    c.in-Some.operator c.in-Some.at c.in-Some.others.now taken right c.in_ok-right.others.now
    c.in_ok-within.ensures c.in_ok-right.ensures) (omega (arith, lt, le)) c.loop-operator.invariant)

pub operators-returns : goal.operators-returns
operators-returns t c =
    let operands = binary_at c.args.budget.beyond (operand_at c.args.budget.beyond c.args.budget.turns
    c.args.budget.room) c.args.tighter in
    let more = binary_more c.args.budget.beyond (8 - c.args.tighter) operands in
    let total = chain_at more (length c.args.tokens.now) (view_expression c.args.operand.value) c.args.tokens.now in
    let left = view_expression c.loop-operator.left.value in
    chain_ends more left c.loop-operator.rest.now total (no_binary c.args.budget.beyond (8 - c.args.tighter)
    operands left c.loop-operator.rest.now (sym c.in_default.ensures)) c.loop-operator.invariant

pub arguments-further-init : goal.arguments-further-init
unfolding arguments_at
arguments-further-init t c =
    let inner : c.into_inner.result ≡ c.args.first.value = search rules in
    rw (c.in_ok-push.ensures.items, c.new-arguments.ensures.items, inner) (length c.args.tokens.now, omega arith, refl)

pub arguments-returns-in-Some : goal.arguments-returns-in-Some
arguments-returns-in-Some t c =
    let whole = expression_at c.args.budget.beyond c.args.budget.turns true c.args.budget.room in
    until_ends (take_mark CloseParen) (argument_at c.args.budget.beyond whole)
    (map view_argument c.further.arguments.items) c.further.rest.now (arguments_at c.args.budget.beyond whole
    (view_expression c.args.first.value) c.args.tokens.now) c.in-Some.right c.in-Some.after.now
    (sym c.in-Some.ensures) (mark_shorter CloseParen c.further.rest.now c.in-Some.right c.in-Some.after.now
    (sym c.in-Some.ensures)) c.further.invariant

pub arguments-returns-in_err-comma : goal.arguments-returns-in_err-comma
arguments-returns-in_err-comma t c =
    let p = err_from_is_err_and c.from_residual-in_err-comma.result c.from_residual-in_err-comma.ensures.1 in
    let whole = expression_at c.args.budget.beyond c.args.budget.turns true c.args.budget.room in
    rw (p.1, p.2) (until_fails (take_mark CloseParen) (argument_at c.args.budget.beyond whole)
    (map view_argument c.further.arguments.items) c.further.rest.now (arguments_at c.args.budget.beyond whole
    (view_expression c.args.first.value) c.args.tokens.now) c.in_err-comma.field-0.0 (sym c.in_default.ensures)
    c.in_err-comma.ensures c.further.invariant)

pub arguments-further-smaller : goal.arguments-further-smaller
arguments-further-smaller t c = argument_shorter c.args.budget.beyond c.args.budget.turns c.args.budget.room
    c.further.rest.now (Some c.in_ok-comma.comma, view_expression c.in_ok-comma.next.value) c.in_ok-comma.after.now
    c.in_ok-comma.ensures

pub arguments-further-preserved : goal.arguments-further-preserved
arguments-further-preserved t c =
    let whole = expression_at c.args.budget.beyond c.args.budget.turns true c.args.budget.room in
    let next = view_argument (Some c.in_ok-comma.comma, c.in_ok-comma.next.value) in
    let inner : c.into_inner-in-further.result ≡ c.in_ok-comma.next.value = search rules in
    let pushed : map view_argument c.push-in-further.new.self.items ≡ map view_argument c.further.arguments.items
    ++ next ∷ [] = rw (c.in_ok-push-2.ensures.items, inner) (map_push _ c.further.arguments.items
    (Some c.in_ok-comma.comma, c.in_ok-comma.next.value)) in
    rw pushed (until_goes_on (take_mark CloseParen) (argument_at c.args.budget.beyond whole)
    (map view_argument c.further.arguments.items) c.further.rest.now (arguments_at c.args.budget.beyond whole
    (view_expression c.args.first.value) c.args.tokens.now) next c.in_ok-comma.after.now
    (sym c.in_default.ensures) c.in_ok-comma.ensures (argument_shorter c.args.budget.beyond c.args.budget.turns
    c.args.budget.room c.further.rest.now next c.in_ok-comma.after.now c.in_ok-comma.ensures) c.further.invariant)

pub call_after-returns-in_err-within-2 : goal.call_after-returns-in_err-within-2
unfolding call_after arguments_after within
call_after-returns-in_err-within-2 t c = search rules

pub named_after-returns-in_err-index : goal.named_after-returns-in_err-index
unfolding named_after index_after within
named_after-returns-in_err-index t c = search rules

pub named_after-returns-in-Some-take_mark : goal.named_after-returns-in-Some-take_mark
unfolding named_after index_after within
named_after-returns-in-Some-take_mark t c = search rules

pub primary-returns-in_err-inner : goal.primary-returns-in_err-inner
unfolding primary_step paren_after within
primary-returns-in_err-inner t c = search rules

pub call_after-returns : goal.call_after-returns
unfolding call_after arguments_after within
call_after-returns t c = rw (
  sym c.in_default.ensures,
  c.in_ok-first.ensures,
  c.in_ok-arguments.ensures,
  c.in_ok-within-2.ensures,
  sym (view_call c.args.name c.args.left c.in_ok-arguments.arguments c.in_ok-arguments.right),
)
    c.before-2.ensures
