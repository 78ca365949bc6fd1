use Rattle.om_undo_history.proofs.Equivalence.{diamond, swaps, untouched, equivalent}
use Rattle.om_undo_history.proofs.laws.equivalence.Goals as goal

pub returns-clause-diamonds : goal.returns-clause-diamonds
returns-clause-diamonds c = diamond

pub returns-clause-swaps : goal.returns-clause-swaps
returns-clause-swaps c = swaps

pub returns-clause-untouched : goal.returns-clause-untouched
returns-clause-untouched c = untouched

pub returns-clause-same_end : goal.returns-clause-same_end
returns-clause-same_end c = equivalent
