use Rattle.std.proofs.Common.{sym, ◌∙◌}
use Rattle.om_parser_parts.proofs.LineRuns.{behind_fails, behind_ends, behind_goes_on}
use Rattle.om_parser_parts.proofs.line.place_behind.Goals as goal

pub returns-in_default : goal.returns-in_default
returns-in_default c = sym (behind_fails c.args.at c.tokens.rest.now (sym c.in_default.ensures)) ∙ c.tokens.invariant

pub returns-then-at-first : goal.returns-then-at-first
returns-then-at-first c = sym (behind_ends c.args.at c.tokens.rest.now c.in-Some.first.now c.in-Some.behind.now
    (sym c.in-Some.ensures) c.if-at-first.true) ∙ c.tokens.invariant

pub tokens-preserved : goal.tokens-preserved
tokens-preserved c = behind_goes_on c.args.at c.tokens.rest.now c.in-Some.first.now c.in-Some.behind.now
    (sym c.in-Some.ensures) c.if-at-first.false ∙ c.tokens.invariant
