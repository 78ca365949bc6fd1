use Rattle.om_scope_tree.specs.Whole.{IsWholeTree}
use Rattle.om_scope_rules.specs.UnitResolution.{resolution_of}
use Rattle.om_scope_rules.proofs.Resolvable.{unbroken_trees_resolve}
use Rattle.om_scope_rules.proofs.Steps.{there_and}
use Rattle.om_scope_rules.proofs.UnitsWhole.{whole_unit}
use Rattle.om_scope_rules.proofs.laws.unbroken_trees_are_whole.Goals as goal

pub returns : goal.returns
returns c = λ unit formed forms whole.
    there_and IsWholeTree (resolution_of unit) (unbroken_trees_resolve unit formed forms whole)
    (whole_unit unit formed whole)
