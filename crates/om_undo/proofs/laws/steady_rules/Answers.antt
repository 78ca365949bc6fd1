use Rattle.om_task.specs.Rules.{rules_of}
use Rattle.om_undo.proofs.Calm.{steady_rules}
use Rattle.om_undo.proofs.laws.steady_rules.Goals as goal

pub returns : goal.returns
returns c = λ program workers. steady_rules (rules_of program workers) (c.calm_rules.ensures program workers)
