use Rattle.std.proofs.Common.{sym}
use Rattle.om_pragma.proofs.Closings.{inside_ends, inside_goes_on, inside_fails}
use Rattle.om_pragma.proofs.argument.closing.Goals as goal

pub returns-in_default : goal.returns-in_default
returns-in_default c = inside_fails c.args.tokens.now c.tokens.rest.now c.tokens.inside c.tokens.depth
    c.tokens.invariant (sym c.in_default.ensures)

pub returns-in_default-open_behind : goal.returns-in_default-open_behind
returns-in_default-open_behind c = inside_ends c.args.tokens.now c.tokens.rest.now c.tokens.inside c.tokens.depth
    c.tokens.invariant c.in-Some.first.now c.in-Some.behind.now (sym c.in-Some.ensures)
    (sym c.in_default-open_behind.ensures)

pub tokens-preserved : goal.tokens-preserved
tokens-preserved c = inside_goes_on c.args.tokens.now c.tokens.rest.now c.tokens.inside c.tokens.depth
    c.tokens.invariant c.in-Some.first.now c.in-Some.behind.now (sym c.in-Some.ensures) c.in-Some-open_behind.more
    (sym c.in-Some-open_behind.ensures)
