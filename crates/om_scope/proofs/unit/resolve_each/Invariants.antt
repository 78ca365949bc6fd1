use Rattle.std.proofs.Common.{◌≡◌, ◌++◌, map, drop}
use Rattle.std.specs.List.{flat_map}
use Rattle.om_parser_tree.specs.View.{view_item}
use Rattle.om_scope_rules.specs.Perhaps.{all_along}
use Rattle.om_scope_tree.specs.ResolvedView as view
use Rattle.om_scope_rules.specs.Scopes.{after_item}
use Rattle.om_scope_rules.specs.UnitResolution.{globals_of, item_functions}
use Rattle.om_scope_rules.specs.UnitRules.{item_breaches}
use Rattle.om_scope_rules.specs.InRow.{Unbroken, made_and}
use Rattle.om_scope.proofs.unit.resolve_each.Given as goal

abbrev pub invariant-loop-item : goal.invariant-loop-item
invariant-loop-item l =
    let all = map view_item l.items in
    let left = map view_item (drop l.item-index l.items) in
    let before = map view.function l.fn.functions.items in
    let now = map view.function l.functions.items in
    record {
      rules : Unbroken item_breaches after_item l.fn.symbols all l.symbols left;
      functions : made_and before (all_along item_functions after_item l.fn.symbols all)
          ≡ made_and now (all_along item_functions after_item l.symbols left);
      globals : l.globals.items ++ flat_map globals_of left ≡ l.fn.globals.items ++ flat_map globals_of all;
    }
