use Rattle.om_parser_parts.proofs.PartsCut.{parts_cut}
use Rattle.om_parser_parts.proofs.laws.parts_stop_so.Goals as goal

pub returns : goal.returns
returns c = parts_cut (record {
  only = c.one_answer.ensures.only;
  is_read = c.one_answer.ensures.is_read;
  stand = c.clauses_stand.ensures;
  first = c.first_value.ensures.only;
})
