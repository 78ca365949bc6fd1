use Rattle.om_team_laws.proofs.Asking.{gets_or_none}
use Rattle.om_team_laws.proofs.laws.all_are_given_out.Goals as goal

pub returns : goal.returns
returns c = λ program workers s t l stack share size otherwise runs choice there has dynamic is.
    gets_or_none program workers l stack s t share size otherwise runs choice there has dynamic is
