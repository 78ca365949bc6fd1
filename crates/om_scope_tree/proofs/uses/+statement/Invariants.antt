use Rattle.std.proofs.Common.{◌≡◌, fold, map, drop}
use Rattle.om_scope_tree.specs.Captures.{parts_uses, statements_uses}
use Rattle.om_scope_tree.specs.ResolvedTree as trees
use Rattle.om_scope_tree.specs.ResolvedView as view
use Rattle.om_scope_tree.proofs.uses.+statement.Given as goal

abbrev pub invariant-take_statements-loop-item : goal.invariant-take_statements-loop-item
invariant-take_statements-loop-item g l =
    fold g.S.Sighting.next l.seen
    (statements_uses (trees.statements (map view.statement (drop l.item-index l.items))))
    ≡ fold g.S.Sighting.next l.fn.seen (statements_uses (trees.statements (map view.statement l.items)))

abbrev pub invariant-take_parts-loop-part : goal.invariant-take_parts-loop-part
invariant-take_parts-loop-part g l =
    fold g.S.Sighting.next l.seen (parts_uses (trees.parts (map view.part (drop l.part-index l.parts))))
    ≡ fold g.S.Sighting.next l.fn.seen (parts_uses (trees.parts (map view.part l.parts)))
