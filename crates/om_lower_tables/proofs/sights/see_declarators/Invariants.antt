use Rattle.std.proofs.Common.{◌≡◌, map, drop}
use Rattle.std.specs.List.{flat_map}
use Rattle.om_lower_rules.specs.Slots.{declarator_sights}
use Rattle.om_scope_tree.specs.ResolvedView as view
use Rattle.om_lower_tables.specs.Sighted.{sighted}
use Rattle.om_lower_tables.proofs.sights.see_declarators.Given as goal

abbrev pub invariant-loop-declarator : goal.invariant-loop-declarator
invariant-loop-declarator l =
    sighted l.seen (flat_map declarator_sights
    (map view.declarator (drop l.declarator-index l.declarators))) ≡ sighted l.fn.seen
    (flat_map declarator_sights (map view.declarator l.declarators))
