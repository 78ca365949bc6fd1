use Rattle.om_parser_parts.proofs.DeclarationLocal.{global_local}
use Rattle.om_parser_parts.proofs.PartsLocal.{parts_local}
use Rattle.om_parser_parts.proofs.laws.parts_are_local.Goals as goal

pub returns-clause-parts : goal.returns-clause-parts
returns-clause-parts c = parts_local (record {
  only = c.one_answer.ensures.only;
  is_read = c.one_answer.ensures.is_read;
  stand = c.clauses_stand.ensures;
  first = c.first_value.ensures.only;
}) c.one_expression.ensures

pub returns-clause-globals : goal.returns-clause-globals
returns-clause-globals c = global_local
