use Rattle.om_pragma.proofs.Standing.{clauses_stand}
use Rattle.om_pragma.proofs.laws.clauses_stand.Goals as goal

pub returns : goal.returns
returns c = clauses_stand
