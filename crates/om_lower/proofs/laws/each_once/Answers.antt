use Rattle.om_lower.proofs.Counting.{each_once}
use Rattle.om_lower.proofs.laws.each_once.Goals as goal

pub returns : goal.returns
returns c = each_once
