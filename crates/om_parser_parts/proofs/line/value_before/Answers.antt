use Rattle.om_parser_parts.proofs.LineAnswers.{value_found}
use Rattle.om_parser_parts.proofs.line.value_before.Goals as goal

pub returns : goal.returns
returns c = value_found c.first_value.ensures.only c.first_value.ensures.found c.args.run.now c.args.place
    c.expression_before.result c.expression_before.ensures.found c.expression_before.ensures.absent
