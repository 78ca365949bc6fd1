use Rattle.std.proofs.Common.{sym, inr, arith}
use Rattle.std.proofs.lemmas.Result.{err_from_is_err_and}
use Rattle.om_parser_parts.proofs.Prefixes.{run_ends, run_over, run_lasts, run_goes_on, prefix_shorter}
use Rattle.om_parser_parts.proofs.expression.prefixes.Goals as goal

pub returns-in_err-within-clause-refused : goal.returns-in_err-within-clause-refused
returns-in_err-within-clause-refused c =
    let p = err_from_is_err_and c.from_residual.result c.from_residual.ensures.1 in
    let over = c.in_err-within.ensures in
    rw (p.1, p.2, over.1)
    (inr (run_over c.args.beyond c.args.turns c.args.tokens.now c.loop-operator.operators.items
    c.loop-operator.rest.now c.in-Some.operator c.in-Some.at c.in-Some.others.now (sym c.in-Some.ensures)
    c.loop-operator.left over.0 c.loop-operator.invariant))

pub returns-in_default-checked_sub-clause-refused : goal.returns-in_default-checked_sub-clause-refused
returns-in_default-checked_sub-clause-refused c =
    rw c.syntax.ensures (inr (run_lasts c.args.beyond c.args.turns c.args.tokens.now c.loop-operator.operators.items
    c.loop-operator.rest.now c.in-Some.operator c.in-Some.at c.in-Some.others.now (sym c.in-Some.ensures)
    c.loop-operator.left (omega (arith, c.in_default-checked_sub.ensures)) c.in_ok-within.ensures
    c.loop-operator.invariant))

pub loop-operator-smaller : goal.loop-operator-smaller
loop-operator-smaller c = prefix_shorter c.loop-operator.rest.now c.in-Some.operator c.in-Some.at
    c.in-Some.others.now (sym c.in-Some.ensures)

pub loop-operator-preserved : goal.loop-operator-preserved
loop-operator-preserved c =
    rw c.in_ok-push.ensures.items (run_goes_on c.args.beyond c.args.turns c.args.tokens.now
    c.loop-operator.operators.items c.loop-operator.rest.now c.in-Some.operator c.in-Some.at
    c.in-Some.others.now (sym c.in-Some.ensures) c.loop-operator.left c.in-Some-checked_sub.fewer
    (omega (arith, c.in-Some-checked_sub.ensures)) c.in_ok-within.ensures c.loop-operator.invariant)

pub returns-clause-taken : goal.returns-clause-taken
returns-clause-taken c = run_ends c.args.beyond c.args.turns c.args.tokens.now c.loop-operator.operators.items
    c.loop-operator.rest.now c.loop-operator.left (sym c.in_default.ensures) c.loop-operator.invariant
