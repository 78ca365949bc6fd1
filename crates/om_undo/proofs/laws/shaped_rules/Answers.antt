use Rattle.om_task.specs.Rules.{rules_of}
use Rattle.om_undo.proofs.Shaped.{shaped_rules}
use Rattle.om_undo.proofs.laws.shaped_rules.Goals as goal

pub returns : goal.returns
returns c = λ program workers. shaped_rules (rules_of program workers) (c.shaped_rules.ensures program workers)
