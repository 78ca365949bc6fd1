use Rattle.std.proofs.Common.{◌≡◌, map, drop, fold}
use Rattle.om_parser_tree.specs.View.{view_item}
use Rattle.om_scope_rules.specs.Scopes.{after_definition, definitions_of}
use Rattle.om_scope.proofs.unit.add_definitions.Given as goal

abbrev pub invariant-loop-item : goal.invariant-loop-item
invariant-loop-item l = fold after_definition l.names (map view_item (drop l.item-index l.items))
    ≡ definitions_of (map view_item l.items)
