use Rattle.std.proofs.Common.{◌∷◌, map, ap, sym, refl, ◌∙◌}
use Rattle.std.proofs.lemmas.Result.{err_from_is_err_and}
use Rattle.om_parser_tree.specs.View.{view_expression}
use Rattle.om_scope_tree.specs.ResolvedView as view
use Rattle.om_scope_rules.specs.InRow.{each_along-step, made_and, row_behind, row_made, row_whole}
use Rattle.om_scope_rules.specs.InRow.{unbroken-refuse, unbroken-step}
use Rattle.om_scope_rules.specs.Scopes.{after_local}
use Rattle.om_scope_rules.specs.StatementResolution.{resolved_declarator, resolved_declarators}
use Rattle.om_scope_rules.specs.StatementRules.{local_breaches}
use Rattle.om_scope_parts.specs.Declares.{local_tree}
use Rattle.om_scope_parts.proofs.Commas.{all_left, declarators_seen}
use Rattle.om_scope_parts.proofs.declaration.add_locals.Goals as goal

pub loop-declarator-init : goal.loop-declarator-init
loop-declarator-init c =
    let declaration = c.args.declaration.now in
    let before = map view.declarator c.args.declared.now.items in
    let whole =
    ap (map local_tree) (c.into_iter-declarator-iterator.ensures.into_iter_gives ∙ c.new-declarator-items.ensures)
    ∙ ap (λ rest. map local_tree (declaration.first ∷ map (λ further. further.1) rest)) c.as_slice.ensures.value
    ∙ declarators_seen view_expression declaration.first declaration.rest.items in
    record {
      rules = all_left whole;
      resolved = ap (λ left. made_and before (resolved_declarators c.args.symbols.now left)) (sym whole);
    }

pub returns-in_err-add_local-clause-checked : goal.returns-in_err-add_local-clause-checked
returns-in_err-add_local-clause-checked c =
    let p = err_from_is_err_and c.from_residual.result c.from_residual.ensures.1 in
    let here = ap (map local_tree) c.in-Some.ensures.steps in
    let left = rw here at c.loop-declarator.invariant.rules in
    rw (p.1, p.2) (unbroken-refuse local_breaches after_local left c.in_err-add_local.ensures.checked)

pub loop-declarator-preserved : goal.loop-declarator-preserved
loop-declarator-preserved c =
    let first = local_tree c.in-Some.declarator.now in
    let rest = map local_tree c.next.new.self in
    let here = ap (map local_tree) c.in-Some.ensures.steps in
    let one = c.in_ok-add_local.ensures in
    record {
      rules = rw one.in_scope (unbroken-step local_breaches after_local (rw here at c.loop-declarator.invariant.rules)
          one.checked);
      resolved = rw one.in_scope ((rw here at c.loop-declarator.invariant.resolved)
          ∙ each_along-step after_local resolved_declarator c.loop-declarator.symbols first rest _ _ one.resolved);
    }

pub returns-clause-checked : goal.returns-clause-checked
returns-clause-checked c =
    row_whole (ap (map local_tree) c.in-None.ensures.steps.0) c.loop-declarator.invariant.rules

pub returns-clause-in_scope : goal.returns-clause-in_scope
returns-clause-in_scope c =
    row_behind (ap (map local_tree) c.in-None.ensures.steps.0) c.loop-declarator.invariant.rules

pub returns-clause-resolved : goal.returns-clause-resolved
returns-clause-resolved c =
    c.loop-declarator.invariant.resolved
    ∙ row_made (resolved_declarators c.loop-declarator.symbols) _ _ refl
    (ap (map local_tree) c.in-None.ensures.steps.0)
