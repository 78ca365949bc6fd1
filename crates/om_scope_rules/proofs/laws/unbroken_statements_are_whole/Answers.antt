use Rattle.om_scope_tree.specs.Whole.{AreWholeItems}
use Rattle.om_scope_rules.specs.StatementResolution.{resolved_statements}
use Rattle.om_scope_rules.proofs.StatementsResolve.{has_statements}
use Rattle.om_scope_rules.proofs.Steps.{there_and}
use Rattle.om_scope_rules.proofs.TreesWhole.{whole_items}
use Rattle.om_scope_rules.proofs.laws.unbroken_statements_are_whole.Goals as goal

pub returns : goal.returns
returns c = λ around scopes flow parallel ss knows agrees formed forms whole.
    there_and (AreWholeItems around) (resolved_statements scopes parallel ss)
    (has_statements scopes flow parallel ss (formed, forms) whole)
    (whole_items around scopes flow parallel ss knows agrees formed whole)
