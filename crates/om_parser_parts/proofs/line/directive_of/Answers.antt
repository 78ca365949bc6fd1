use Rattle.om_parser_parts.proofs.LineAnswers.{answered}
use Rattle.om_parser_parts.proofs.line.directive_of.Goals as goal

pub returns-clause-reads : goal.returns-clause-reads
returns-clause-reads c = answered c.one_answer.ensures.only c.one_answer.ensures.is_read c.args.run.now c.requires
    c.directive.result c.directive.ensures.found c.directive.ensures.refused c.directive.ensures.stops_at_the_first
