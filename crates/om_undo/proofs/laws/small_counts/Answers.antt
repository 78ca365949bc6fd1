use Rattle.om_task.specs.Rules.{rules_of}
use Rattle.om_undo.proofs.laws.small_counts.Goals as goal

pub returns : goal.returns
returns c = λ program workers. c.small_counts.ensures (rules_of program workers)
    (c.steady_rules.ensures program workers)
