use Rattle.om_name_laws.proofs.Globals.{names_mean_globals}
use Rattle.om_name_laws.proofs.laws.names_mean_globals.Goals as goal

pub returns : goal.returns
returns c = names_mean_globals
