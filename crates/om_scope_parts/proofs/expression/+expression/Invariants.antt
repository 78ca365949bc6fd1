use Rattle.std.proofs.Common.{◌≡◌, ◌≤◌, map, drop}
use Rattle.om_parser_tree.specs.View.{view_argument}
use Rattle.om_parser_tree.specs.Tree.{arguments}
use Rattle.om_scope_rules.specs.ExpressionRules.{arguments_breaches, printed_breaches}
use Rattle.om_scope_tree.specs.ResolvedView as view
use Rattle.om_scope_parts.proofs.Arguments.{ArePrinted, IsMade}
use Rattle.om_scope_parts.proofs.expression.+expression.Given as goal

-- those that are left have all the breaches, and their values are behind those that are made
abbrev pub invariant-resolve_values-loop-argument : goal.invariant-resolve_values-loop-argument
invariant-resolve_values-loop-argument l =
    (arguments_breaches l.symbols (arguments (map view_argument l.values)) ≡ arguments_breaches l.symbols
    (arguments (map view_argument (drop l.argument-index l.values))))
    × IsMade l.symbols (arguments (map view_argument l.values)) (map view.expression l.resolved.items)
    (arguments (map view_argument (drop l.argument-index l.values)))

abbrev pub invariant-resolve_printed-loop-argument : goal.invariant-resolve_printed-loop-argument
invariant-resolve_printed-loop-argument l =
    (printed_breaches l.symbols 0 (arguments (map view_argument l.values)) ≡ printed_breaches l.symbols l.place
    (arguments (map view_argument (drop l.argument-index l.values))))
    × ArePrinted l.symbols (arguments (map view_argument l.values)) l.place
    (map view.expression l.resolved.items) (arguments (map view_argument (drop l.argument-index l.values)))
    × (l.place ≤ l.argument-index)
