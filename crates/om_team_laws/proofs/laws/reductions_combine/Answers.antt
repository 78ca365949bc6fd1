use Rattle.om_team_laws.proofs.Combining.{combines}
use Rattle.om_team_laws.proofs.laws.reductions_combine.Goals as goal

pub returns : goal.returns
returns c = λ program workers s t l stack other r copy original runs choice there is still.
    combines program workers l stack other s t still r copy original runs choice there is
