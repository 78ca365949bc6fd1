use Rattle.std.proofs.Common.{◌≡◌, ◌-◌, ◌+◌, ◌*◌, length, map, true, Ok}
use Rattle.om_lexer.specs.declared.token.Punctuator.TheVariants.{CloseParen}
use Rattle.om_parser_parts.specs.ExpressionReading.{argument_at, arguments_at, binary_at, binary_more, chain_at, expression_at}
use Rattle.om_parser_parts.specs.ExpressionReading.{operand_at}
use Rattle.om_parser_parts.specs.Reading.{take_mark}
use Rattle.om_parser_tree.specs.View.{view_argument, view_expression}
use Rattle.om_parser_parts.proofs.Chains.{GoesOn}
use Rattle.om_parser_parts.specs.Loops as loops
use Rattle.om_parser_parts.proofs.expression.+expression.Given as goal

-- the turns that are left, and in a turn the call that is nearer to an operand
abbrev pub decreases-expression : goal.decreases-expression
decreases-expression l = 40 * l.budget.turns

abbrev pub decreases-expression_after : goal.decreases-expression_after
decreases-expression_after l = 40 * l.budget.turns + 38

abbrev pub decreases-conditional_after : goal.decreases-conditional_after
decreases-conditional_after l = 40 * l.budget.turns + 37

abbrev pub decreases-binary : goal.decreases-binary
decreases-binary l = 40 * l.budget.turns + 20 + 2 * l.levels

abbrev pub decreases-operators : goal.decreases-operators
decreases-operators l = 40 * l.budget.turns + 21 + 2 * l.tighter

abbrev pub decreases-unary : goal.decreases-unary
decreases-unary l = 40 * l.budget.turns + 19

abbrev pub decreases-postfix : goal.decreases-postfix
decreases-postfix l = 40 * l.budget.turns + 18

abbrev pub decreases-primary : goal.decreases-primary
decreases-primary l = 40 * l.budget.turns + 17

abbrev pub decreases-named_after : goal.decreases-named_after
decreases-named_after l = 40 * l.budget.turns + 16

abbrev pub decreases-call_after : goal.decreases-call_after
decreases-call_after l = 40 * l.budget.turns + 15

abbrev pub decreases-arguments : goal.decreases-arguments
decreases-arguments l = 40 * l.budget.turns + 5

abbrev pub decreases-argument : goal.decreases-argument
decreases-argument l = 40 * l.budget.turns + 4

abbrev pub decreases-first_argument : goal.decreases-first_argument
decreases-first_argument l = 40 * l.budget.turns + 3

abbrev pub decreases-closed : goal.decreases-closed
decreases-closed l = 40 * l.budget.turns + 2

-- the operand and what goes on with it in the tighter levels are read
abbrev pub invariant-binary-levels : goal.invariant-binary-levels
invariant-binary-levels l = binary_at l.budget.beyond (operand_at l.budget.beyond l.budget.turns l.budget.room)
    l.tighter l.tokens ≡ Ok (view_expression l.left.value, l.rest)

-- what is still to be read makes the whole
abbrev pub invariant-operators-loop-operator : goal.invariant-operators-loop-operator
invariant-operators-loop-operator l =
    let more = binary_more l.budget.beyond (8 - l.tighter)
    (binary_at l.budget.beyond (operand_at l.budget.beyond l.budget.turns l.budget.room) l.tighter) in
    GoesOn more (view_expression l.left.value) l.rest
    (chain_at more (length l.tokens) (view_expression l.fn.operand.value) l.tokens)

abbrev pub decreases-operators-loop-operator : goal.decreases-operators-loop-operator
decreases-operators-loop-operator l = length l.rest

abbrev pub invariant-arguments-further : goal.invariant-arguments-further
invariant-arguments-further l = loops.GoesOn (take_mark CloseParen)
    (argument_at l.budget.beyond (expression_at l.budget.beyond l.budget.turns true l.budget.room))
    (map view_argument l.arguments.items) l.rest
    (arguments_at l.budget.beyond (expression_at l.budget.beyond l.budget.turns true l.budget.room)
    (view_expression l.fn.first.value) l.tokens)

abbrev pub decreases-arguments-further : goal.decreases-arguments-further
decreases-arguments-further l = length l.rest
