use Rattle.om_name_laws.proofs.Bodies.{names_mean}
use Rattle.om_name_laws.proofs.laws.names_mean_variables.Goals as goal

pub returns : goal.returns
returns c = names_mean
