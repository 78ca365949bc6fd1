use Rattle.om_frontend.proofs.OneVerdicts.{one_verdict}
use Rattle.om_frontend.proofs.laws.one_verdict.Goals as goal

pub returns : goal.returns
returns c = one_verdict (record {
  one_token_list = c.one_reading.ensures.one_token_list;
  tokens_no_fault = c.one_reading.ensures.tokens_no_fault;
  one_fault = c.one_reading.ensures.one_fault;
  one_tree = c.one_tree.ensures;
  accepted = c.accepted_units.ensures;
  one_code = c.one_code.ensures;
  within_is_not_too_many = c.one_limit.ensures.within_is_not_too_many;
  one_too_many = c.one_limit.ensures.one_too_many;
})
