use Rattle.om_lower.proofs.OneLimit.{within_is_not_too_many, one_too_many}
use Rattle.om_lower.proofs.laws.one_limit.Goals as goal

pub returns-clause-within_is_not_too_many : goal.returns-clause-within_is_not_too_many
returns-clause-within_is_not_too_many c = within_is_not_too_many c.one_body_code.ensures

pub returns-clause-one_too_many : goal.returns-clause-one_too_many
returns-clause-one_too_many c = one_too_many c.one_body_code.ensures
