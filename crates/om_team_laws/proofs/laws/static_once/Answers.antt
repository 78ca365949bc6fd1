use Rattle.om_team_laws.proofs.Statics.{runs_steady, static_once}
use Rattle.om_team_laws.proofs.laws.static_once.Goals as goal

pub returns : goal.returns
returns c = λ program workers first between l m s t u v team region iteration e is b rest again alike.
    static_once program workers c.partition.ensures between l m s t u v team region iteration
    (c.runs_are_orderly.ensures program workers first s e) (runs_steady program workers first s e) is b rest again alike
