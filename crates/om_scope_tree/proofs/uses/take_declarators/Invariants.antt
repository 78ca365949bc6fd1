use Rattle.std.proofs.Common.{◌≡◌, fold, map, drop}
use Rattle.std.specs.List.{flat_map}
use Rattle.om_scope_tree.specs.Captures.{declarator_uses}
use Rattle.om_scope_tree.specs.ResolvedView as view
use Rattle.om_scope_tree.proofs.uses.take_declarators.Given as goal

abbrev pub invariant-loop-declarator : goal.invariant-loop-declarator
invariant-loop-declarator g l =
    fold g.S.Sighting.next l.seen
    (flat_map declarator_uses (map view.declarator (drop l.declarator-index l.declarators)))
    ≡ fold g.S.Sighting.next l.fn.seen (flat_map declarator_uses (map view.declarator l.declarators))
