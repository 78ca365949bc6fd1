use Rattle.std.proofs.Common.{◌+◌, ◌++◌, Some, map, drop, ap, sym, refl, ◌∙◌, append_assoc}
use Rattle.std.specs.List.{flat_map}
use Rattle.std.proofs.lemmas.List.{append-nil, drop_all}
use Rattle.std.proofs.lemmas.Result.{err_from_is_err_and}
use Rattle.om_parser_tree.specs.View.{view_item}
use Rattle.om_scope_tree.specs.ResolvedView as view
use Rattle.om_scope_rules.specs.Perhaps.{all_along}
use Rattle.om_scope_rules.specs.Scopes.{after_item}
use Rattle.om_scope_rules.specs.UnitResolution.{globals_of, item_functions}
use Rattle.om_scope_rules.specs.UnitRules.{item_breaches}
use Rattle.om_scope_rules.specs.InRow.{all_along-step, made_and, unbroken-begin, unbroken-refuse, unbroken-step}
use Rattle.om_scope.specs.Items.{drop-item}
use Rattle.om_scope.proofs.Propers.{item_proper}
use Rattle.om_scope_rules.specs.InRow.{row_whole}
use Rattle.om_scope.proofs.unit.resolve_each.Goals as goal

pub resolve_item-requires : goal.resolve_item-requires
resolve_item-requires c = record {
  proper = item_proper c.args.items.now c.loop-item.item-index c.item-item.result c.loop-item-test.true c.item-item.is
      c.requires.proper;
}

pub returns-in_err-resolve_item-clause-checked : goal.returns-in_err-resolve_item-clause-checked
returns-in_err-resolve_item-clause-checked c =
    let p = err_from_is_err_and c.from_residual.result c.from_residual.ensures.1 in
    let here = ap (map view_item) (drop-item c.args.items.now c.loop-item.item-index c.item-item.result
    c.loop-item-test.true c.item-item.is) in
    let left = rw here at c.loop-item.invariant.rules in
    rw (p.1, p.2) (unbroken-refuse item_breaches after_item left c.in_err-resolve_item.ensures.checked)

pub loop-item-preserved : goal.loop-item-preserved
loop-item-preserved c =
    let here = ap (map view_item) (drop-item c.args.items.now c.loop-item.item-index c.item-item.result
    c.loop-item-test.true c.item-item.is) in
    let one = c.in_ok-resolve_item.ensures in
    let rest = map view_item (drop (c.loop-item.item-index + 1) c.args.items.now) in
    record {
      rules = rw one.in_scope (unbroken-step item_breaches after_item (rw here at c.loop-item.invariant.rules)
          one.checked);
      functions = rw one.in_scope ((rw here at c.loop-item.invariant.functions) ∙ all_along-step after_item
          item_functions _ _ _ _ _ one.defined);
      globals = rw one.declared (append_assoc c.loop-item.globals.items (globals_of (view_item c.item-item.result))
          (flat_map globals_of rest) ∙ (rw here at c.loop-item.invariant.globals));
    }

pub loop-item-init : goal.loop-item-init
loop-item-init c = record { rules = unbroken-begin item_breaches after_item _ _; functions = refl; globals = refl }

pub returns-clause-checked : goal.returns-clause-checked
returns-clause-checked c = row_whole (ap (map view_item) (drop_all c.loop-item.item-index c.args.items.now
    c.loop-item-test.false)) c.loop-item.invariant.rules

pub returns-clause-declared : goal.returns-clause-declared
returns-clause-declared c =
    let none = ap (map view_item) (drop_all c.loop-item.item-index c.args.items.now c.loop-item-test.false) in
    let made = c.loop-item.globals.items in
    sym (ap (λ left. made ++ flat_map globals_of left) none ∙ append-nil made) ∙ c.loop-item.invariant.globals

pub returns-clause-defined : goal.returns-clause-defined
returns-clause-defined c =
    let none = ap (map view_item) (drop_all c.loop-item.item-index c.args.items.now c.loop-item-test.false) in
    let made = map view.function c.loop-item.functions.items in
    c.loop-item.invariant.functions
    ∙ ap (λ left. made_and made (all_along item_functions after_item c.loop-item.symbols left)) none
    ∙ ap Some (append-nil made)
