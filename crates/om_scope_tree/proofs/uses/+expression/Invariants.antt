use Rattle.std.proofs.Common.{◌≡◌, fold, map, drop}
use Rattle.om_scope_tree.specs.Captures.{values_uses}
use Rattle.om_scope_tree.specs.ResolvedTree as trees
use Rattle.om_scope_tree.specs.ResolvedView as view
use Rattle.om_scope_tree.proofs.uses.+expression.Given as goal

abbrev pub invariant-take_values-loop-value : goal.invariant-take_values-loop-value
invariant-take_values-loop-value g l =
    fold g.S.Sighting.next l.seen
    (values_uses (trees.values (map view.expression (drop l.value-index l.values))))
    ≡ fold g.S.Sighting.next l.fn.seen (values_uses (trees.values (map view.expression l.values)))
