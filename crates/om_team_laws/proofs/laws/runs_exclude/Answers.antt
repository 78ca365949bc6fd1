use Rattle.om_task.specs.Rules.{rules_of, start_of}
use Rattle.om_team_laws.specs.Criticals.{HasExclusion}
use Rattle.om_team_laws.proofs.Replays.{rest_keeps}
use Rattle.om_team_laws.proofs.laws.runs_exclude.Goals as goal

pub returns : goal.returns
returns c = λ program workers ls s e.
    rest_keeps (rules_of program workers) HasExclusion (c.steps_exclude.ensures program workers) ls
    (start_of program workers) s (c.start_excludes.ensures program workers) e
