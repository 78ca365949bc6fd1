use Rattle.std.proofs.lemmas.Bool.{both_ways}
use Rattle.om_lexer.proofs.HashLines.{definition_there, no_definition}
use Rattle.om_lexer.proofs.define.definition_at.Goals as goal

pub returns-then-is_definition-clause-found : goal.returns-then-is_definition-clause-found
returns-then-is_definition-clause-found c =
    let parts = c.is_definition.ensures.0 c.if-is_definition.true in
    definition_there c.args.source.now c.args.from _ _ _ _ c.gap_end-name.ensures.gap
    c.word_end-name_end.ensures.run c.gap_end-number.ensures.gap c.word_end-number_end.ensures.run parts.0
    parts.1 parts.2

pub returns-then-is_definition-clause-digits : goal.returns-then-is_definition-clause-digits
returns-then-is_definition-clause-digits c = (c.is_definition.ensures.0 c.if-is_definition.true).1.1

pub returns-else-is_definition-clause-none : goal.returns-else-is_definition-clause-none
returns-else-is_definition-clause-none c =
    no_definition c.args.source.now c.args.from _ _ _ _ c.gap_end-name.ensures.gap c.word_end-name_end.ensures.run
    c.gap_end-number.ensures.gap c.word_end-number_end.ensures.run
    (λ parts. both_ways _ c.if-is_definition.false (c.is_definition.ensures.1 parts))
