use Rattle.std.proofs.Common.{◌+◌, map, drop, ap, sym, refl, ◌∙◌}
use Rattle.std.proofs.lemmas.Result.{err_from_is_err_and}
use Rattle.om_parser_tree.specs.View.{view_expression}
use Rattle.om_pragma.specs.Expressions.{map_item}
use Rattle.om_scope_rules.specs.DirectiveRules.{after_item, item_breaches}
use Rattle.om_scope_tree.specs.ResolvedView as view
use Rattle.om_scope_rules.specs.StatementResolution.{resolved_item}
use Rattle.om_scope_rules.specs.InRow.{all_of-step, unbroken-refuse, unbroken-step}
use Rattle.om_scope_parts.proofs.Items.{drop-item}
use Rattle.std.proofs.lemmas.List.{drop_all}
use Rattle.om_scope_rules.specs.InRow.{nothing_made, unbroken-begin}
use Rattle.om_scope_rules.specs.StatementResolution.{resolved_clauses}
use Rattle.om_scope_rules.specs.InRow.{row_behind, row_made, row_whole}
use Rattle.om_scope_rules.specs.Resolves.{refuses}
use Rattle.om_scope_parts.proofs.directive.resolve_clauses.Goals as goal

pub returns-in_err-resolve_clause-clause-found : goal.returns-in_err-resolve_clause-clause-found
returns-in_err-resolve_clause-clause-found c =
    let p = err_from_is_err_and c.from_residual.result c.from_residual.ensures.1 in
    let here = ap (map (map_item view_expression)) (drop-item c.args.items.now c.loop-item.item-index
    c.item-item.result c.loop-item-test.true c.item-item.is) in
    let left = rw here at c.loop-item.invariant.rules in
    rw (p.1, p.2) (refuses (unbroken-refuse (item_breaches c.args.symbols.now) after_item left
    c.in_err-resolve_clause.ensures.checked))

pub loop-item-preserved : goal.loop-item-preserved
loop-item-preserved c =
    let item = map_item view_expression c.item-item.result in
    let rest = map (map_item view_expression) (drop (c.loop-item.item-index + 1) c.args.items.now) in
    let made = map view.clause c.loop-item.clauses.items in
    let grown = map view.clause c.resolve_clause.new.clauses.items in
    let one = c.in_ok-resolve_clause.ensures in
    let here = ap (map (map_item view_expression)) (drop-item c.args.items.now c.loop-item.item-index
    c.item-item.result c.loop-item-test.true c.item-item.is) in
    record {
      rules = rw one.listed (unbroken-step (item_breaches c.args.symbols.now) after_item
          (rw here at c.loop-item.invariant.rules) one.checked);
      resolved = (rw here at c.loop-item.invariant.resolved) ∙ all_of-step (resolved_item c.args.symbols.now) item
          rest made grown one.resolved;
    }

pub loop-item-init : goal.loop-item-init
loop-item-init c = rw (c.new-listed.ensures, c.new-clauses.ensures.items) record {
  rules = unbroken-begin (item_breaches c.args.symbols.now) after_item _ _;
  resolved = sym (nothing_made _);
}

pub returns-clause-found : goal.returns-clause-found
returns-clause-found c = record {
  checked =
      let none = ap (map (map_item view_expression)) (drop_all c.loop-item.item-index c.args.items.now
      c.loop-item-test.false) in
      row_whole none c.loop-item.invariant.rules;
  resolved =
      let none = ap (map (map_item view_expression)) (drop_all c.loop-item.item-index c.args.items.now
      c.loop-item-test.false) in
      c.loop-item.invariant.resolved ∙ row_made (resolved_clauses c.args.symbols.now) _ _ refl none;
}

pub returns-clause-listed : goal.returns-clause-listed
returns-clause-listed c =
    let none = ap (map (map_item view_expression)) (drop_all c.loop-item.item-index c.args.items.now
    c.loop-item-test.false) in
    row_behind none c.loop-item.invariant.rules
