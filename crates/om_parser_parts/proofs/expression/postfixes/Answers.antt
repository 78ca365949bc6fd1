use Rattle.std.proofs.Common.{length, sym, inr, arith}
use Rattle.std.proofs.lemmas.Result.{err_from_is_err_and}
use Rattle.om_parser_parts.specs.ExpressionReading.{chain_at, postfix_more}
use Rattle.om_parser_parts.specs.Reading.{too_deep}
use Rattle.om_parser_tree.specs.Tree.{Postfix}
use Rattle.om_parser_tree.specs.View.{view_expression}
use Rattle.om_parser_parts.proofs.Chains.{chain_ends, chain_stops, chain_goes_on, no_postfix, postfix_over, postfix_on}
use Rattle.om_parser_parts.proofs.Chains.{postfix_shorter}
use Rattle.om_parser_parts.proofs.expression.postfixes.Goals as goal

pub returns-in_err-within : goal.returns-in_err-within
returns-in_err-within c =
    let p = err_from_is_err_and c.from_residual.result c.from_residual.ensures.1 in
    let total = chain_at (postfix_more c.args.beyond) (length c.args.tokens.now)
    (view_expression c.args.operand.value) c.args.tokens.now in
    let left = view_expression c.loop-operator.left.value in
    let rest = c.loop-operator.rest.now in
    let over = c.in_err-within.ensures in
    let lt = postfix_shorter rest c.in-Some.operator c.in-Some.at c.in-Some.others.now (sym c.in-Some.ensures) in
    rw (p.1, p.2, over.1) (inr (chain_stops (postfix_more c.args.beyond) left rest total (too_deep c.in-Some.at)
    (postfix_over c.args.beyond left rest c.in-Some.operator c.in-Some.at c.in-Some.others.now
    (sym c.in-Some.ensures) over.0) (omega (arith, lt)) c.loop-operator.invariant))

pub loop-operator-smaller : goal.loop-operator-smaller
loop-operator-smaller c = postfix_shorter c.loop-operator.rest.now c.in-Some.operator c.in-Some.at
    c.in-Some.others.now (sym c.in-Some.ensures)

pub loop-operator-preserved : goal.loop-operator-preserved
loop-operator-preserved c =
    let total = chain_at (postfix_more c.args.beyond) (length c.args.tokens.now)
    (view_expression c.args.operand.value) c.args.tokens.now in
    let left = view_expression c.loop-operator.left.value in
    let rest = c.loop-operator.rest.now in
    let taken = sym c.in-Some.ensures in
    rw c.in_ok-left.ensures (chain_goes_on (postfix_more c.args.beyond) left rest total
    (Postfix left c.in-Some.operator c.in-Some.at) c.in-Some.others.now (postfix_on c.args.beyond left rest
    c.in-Some.operator c.in-Some.at c.in-Some.others.now taken c.in_ok-within.ensures)
    (postfix_shorter rest c.in-Some.operator c.in-Some.at c.in-Some.others.now taken) c.loop-operator.invariant)

pub returns : goal.returns
returns c =
    let total = chain_at (postfix_more c.args.beyond) (length c.args.tokens.now)
    (view_expression c.args.operand.value) c.args.tokens.now in
    let left = view_expression c.loop-operator.left.value in
    chain_ends (postfix_more c.args.beyond) left c.loop-operator.rest.now total
    (no_postfix c.args.beyond left c.loop-operator.rest.now (sym c.in_default.ensures)) c.loop-operator.invariant
