use Rattle.std.proofs.Common.{◌≡◌, map, drop}
use Rattle.om_parser_tree.specs.View.{view_expression}
use Rattle.om_pragma.specs.Expressions.{map_item}
use Rattle.om_scope_rules.specs.DirectiveRules.{after_item, item_breaches, nothing_listed}
use Rattle.om_scope_tree.specs.ResolvedView as view
use Rattle.om_scope_rules.specs.StatementResolution.{resolved_clauses}
use Rattle.om_scope_rules.specs.InRow.{Unbroken, made_and}
use Rattle.om_scope_parts.proofs.directive.resolve_clauses.Given as goal

abbrev pub invariant-loop-item : goal.invariant-loop-item
invariant-loop-item l =
    let all = map (map_item view_expression) l.items in
    let left = map (map_item view_expression) (drop l.item-index l.items) in
    record {
      rules : Unbroken (item_breaches l.symbols) after_item nothing_listed all l.listed left;
      resolved : resolved_clauses l.symbols all ≡ made_and (map view.clause l.clauses.items)
          (resolved_clauses l.symbols left);
    }
