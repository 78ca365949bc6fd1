use Rattle.om_team_laws.proofs.Shared.{begun_once}
use Rattle.om_team_laws.proofs.laws.begun_once.Goals as goal

pub returns : goal.returns
returns c = λ program workers first between l m s t u v team region iteration e is b rest again.
    begun_once program workers between l m s t u v team region iteration
    (c.runs_share_out.ensures program workers first s e) is b rest again
