use Rattle.om_pragma.proofs.OneAnswer.{one_answer, is_answer}
use Rattle.om_pragma.proofs.laws.one_answer.Goals as goal

pub returns : goal.returns
returns c = record { only = one_answer; is_read = is_answer }
