use Rattle.om_team_laws.proofs.Children.{valid_runs_count}
use Rattle.om_team_laws.proofs.laws.children_are_counted.Goals as goal

pub returns : goal.returns
returns c = λ program workers ls s valid e.
    valid_runs_count program workers c.born_below.ensures valid ls s e
