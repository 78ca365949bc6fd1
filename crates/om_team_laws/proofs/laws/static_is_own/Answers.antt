use Rattle.om_team_laws.proofs.Statics.{is_own, runs_steady, top_there}
use Rattle.om_team_laws.proofs.laws.static_is_own.Goals as goal

pub returns : goal.returns
returns c = λ program workers ls s t team region iteration worker e b.
    is_own s t team region iteration worker b
    (runs_steady program workers ls s e worker b.stack.top (top_there s t team region iteration worker b)) b.has_number
