use Rattle.om_team_worksharing.proofs.Partition.{shares}
use Rattle.om_team_worksharing.proofs.laws.shares.Goals as goal

pub returns : goal.returns
returns c = shares
