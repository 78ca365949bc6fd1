use Rattle.om_team_laws.proofs.Stages.{begin_once}
use Rattle.om_team_laws.proofs.laws.tasks_begin_once.Goals as goal

pub returns : goal.returns
returns c = λ program workers first between l m s t u v name e is one rest again.
    begin_once program workers between l m s t u v name (c.runs_are_orderly.ensures program workers first s e) is one rest again
