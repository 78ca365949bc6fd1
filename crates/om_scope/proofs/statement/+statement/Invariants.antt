use Rattle.std.proofs.Common.{◌≡◌, length, map, drop}
use Rattle.om_parser_tree.specs.Tree.{parts, statements}
use Rattle.om_parser_tree.specs.View.{view_part, view_statement}
use Rattle.om_scope_tree.specs.ResolvedView as view
use Rattle.om_scope_rules.specs.Proper.{AreProper, AreProperParts}
use Rattle.om_scope_rules.specs.StatementResolution.{resolved_parts, resolved_statements}
use Rattle.om_scope_rules.specs.StatementRules.{after_statements, parts_breaches, statements_breaches}
use Rattle.om_scope.proofs.MadeParts.{MadeParts}
use Rattle.om_scope.proofs.Statements.{Made}
use Rattle.om_scope.proofs.statement.+statement.Given as goal

-- those that are left have all the breaches, and make what is not made yet
abbrev pub invariant-resolve_statements-loop-item : goal.invariant-resolve_statements-loop-item
invariant-resolve_statements-loop-item l =
    let all = map view_statement l.items in
    let left = map view_statement (drop l.item-index l.items) in
    let parallel = l.flow.parallel in
    (statements_breaches l.fn.symbols l.flow (statements all) ≡ statements_breaches l.symbols l.flow (statements left))
    × (after_statements l.fn.symbols all ≡ after_statements l.symbols left)
    × Made (resolved_statements l.fn.symbols parallel (statements all)) (resolved_statements l.symbols parallel
    (statements left)) (map view.statement l.resolved.items)
    × AreProper (statements left)

abbrev pub invariant-resolve_parts-loop-part : goal.invariant-resolve_parts-loop-part
invariant-resolve_parts-loop-part l =
    let all = map view_part l.sections in
    let left = map view_part (drop l.part-index l.sections) in
    let parallel = l.flow.parallel in
    let made = map view.part l.resolved.items in
    (parts_breaches l.fn.symbols l.flow 0 (parts all) ≡ parts_breaches l.fn.symbols l.flow (length made) (parts left))
    × (l.symbols ≡ l.fn.symbols)
    × MadeParts (resolved_parts l.fn.symbols parallel (parts all)) (resolved_parts l.fn.symbols parallel (parts left))
    made
    × AreProperParts (parts left)
