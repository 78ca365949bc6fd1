use Rattle.std.proofs.lemmas.Bool.{both_ways}
use Rattle.om_lexer.proofs.HashLines.{no_tail}
use Rattle.om_lexer.proofs.hash_line.include_end.Goals as goal

pub returns-else-ends_line-clause-none : goal.returns-else-ends_line-clause-none
returns-else-ends_line-clause-none c =
    no_tail c.args.source.now c.args.from _ c.in_ok-to.ensures.found (λ tail. both_ways _ c.if-ends_line.false
    (c.ends_line.ensures.1 tail))

pub returns-then-ends_line-clause-found : goal.returns-then-ends_line-clause-found
returns-then-ends_line-clause-found c = (c.in_ok-to.ensures.found, c.ends_line.ensures.0 c.if-ends_line.true)
