use Rattle.om_undo_history.proofs.RunLaws.{serials_rise, serials_identify}
use Rattle.om_undo_history.proofs.laws.serials.Goals as goal

pub returns-clause-rise : goal.returns-clause-rise
returns-clause-rise c = serials_rise

pub returns-clause-identify : goal.returns-clause-identify
returns-clause-identify c = serials_identify
