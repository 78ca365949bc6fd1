use Rattle.std.proofs.Common.{◌≡◌, map, drop}
use Rattle.om_lower_rules.specs.Slots.{parts_sights, statements_sights}
use Rattle.om_scope_tree.specs.ResolvedTree as trees
use Rattle.om_scope_tree.specs.ResolvedView as view
use Rattle.om_lower_tables.specs.Sighted.{sighted}
use Rattle.om_lower_tables.proofs.sights.+statement.Given as goal

abbrev pub invariant-see_statements-loop-item : goal.invariant-see_statements-loop-item
invariant-see_statements-loop-item l =
    sighted l.seen (statements_sights
    (trees.statements (map view.statement (drop l.item-index l.items)))) ≡ sighted l.fn.seen
    (statements_sights (trees.statements (map view.statement l.items)))

abbrev pub invariant-see_parts-loop-part : goal.invariant-see_parts-loop-part
invariant-see_parts-loop-part l =
    sighted l.seen (parts_sights (trees.parts (map view.part (drop l.part-index l.parts))))
    ≡ sighted l.fn.seen (parts_sights (trees.parts (map view.part l.parts)))
