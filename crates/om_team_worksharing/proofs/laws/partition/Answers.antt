use Rattle.om_team_worksharing.proofs.Partition.{partition}
use Rattle.om_team_worksharing.proofs.laws.partition.Goals as goal

pub returns : goal.returns
returns c = partition
