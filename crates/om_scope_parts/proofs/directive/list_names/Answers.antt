use Rattle.std.proofs.Common.{map, ap, sym, refl, ◌∙◌}
use Rattle.std.proofs.lemmas.Result.{err_from_is_err_and}
use Rattle.om_scope_tree.specs.ResolvedView as view
use Rattle.om_scope_rules.specs.DirectiveRules.{after_name, listed_breaches, sharing_of}
use Rattle.om_scope_rules.specs.InRow.{each-step, made_and, row_behind, row_made, row_whole}
use Rattle.om_scope_rules.specs.InRow.{unbroken-refuse, unbroken-step}
use Rattle.om_scope_rules.specs.Perhaps.{each}
use Rattle.om_scope_rules.specs.StatementResolution.{resolved_listed}
use Rattle.om_scope_parts.proofs.Items.{map-push}
use Rattle.om_scope_parts.proofs.Commas.{all_left}
use Rattle.om_scope_parts.proofs.directive.list_names.Goals as goal

pub loop-name-init : goal.loop-name-init
loop-name-init c =
    let part = resolved_listed c.args.listing.now.kind c.args.listing.now.symbols.now in
    let before = map view.clause c.args.clauses.now.items in
    let whole = c.into_iter-name-iterator.ensures.into_iter_gives ∙ c.new-name-items.ensures in
    record { rules = all_left whole; resolved = ap (λ left. made_and before (each part left)) (sym whole) }

pub returns-in_err-add-clause-checked : goal.returns-in_err-add-clause-checked
returns-in_err-add-clause-checked c =
    let p = err_from_is_err_and c.from_residual.result c.from_residual.ensures.1 in
    let left = rw c.in-Some.ensures.steps at c.loop-name.invariant.rules in
    rw (p.1, p.2) (unbroken-refuse (listed_breaches c.args.listing.now.symbols.now
    (sharing_of c.args.listing.now.kind)) (after_name (sharing_of c.args.listing.now.kind)) left
    (c.in_err-add.ensures.checked _ c.list_name-found.ensures.found.checked))

pub loop-name-preserved : goal.loop-name-preserved
loop-name-preserved c =
    let part = resolved_listed c.args.listing.now.kind c.args.listing.now.symbols.now in
    let rest = c.next.new.self in
    let made = c.loop-name.clauses.items in
    let added = c.in_ok-add.ensures.added in
    let clause = added.0 in
    let checked = rw added.1 at c.list_name-found.ensures.found.checked in
    let behind = rw added.1 at c.list_name-found.ensures.listed in
    let found = rw added.1 at c.list_name-found.ensures.found.resolved in
    let here = c.in-Some.ensures.steps in
    let pushed = ap (map view.clause) added.2 ∙ map-push view.clause made clause in
    record {
      rules = rw behind (unbroken-step (listed_breaches c.args.listing.now.symbols.now
          (sharing_of c.args.listing.now.kind)) (after_name (sharing_of c.args.listing.now.kind))
          (rw here at c.loop-name.invariant.rules) checked);
      resolved =
          (rw here at c.loop-name.invariant.resolved)
          ∙ each-step part c.in-Some.name.now rest (map view.clause made) (view.clause clause) found
          ∙ ap (λ grown. made_and grown (each part rest)) (sym pushed);
    }

pub returns-clause-checked : goal.returns-clause-checked
returns-clause-checked c = row_whole c.in-None.ensures.steps.0 c.loop-name.invariant.rules

pub returns-clause-listed : goal.returns-clause-listed
returns-clause-listed c = row_behind c.in-None.ensures.steps.0 c.loop-name.invariant.rules

pub returns-clause-resolved : goal.returns-clause-resolved
returns-clause-resolved c =
    c.loop-name.invariant.resolved
    ∙ row_made (each (resolved_listed c.args.listing.now.kind c.args.listing.now.symbols.now)) _ _ refl
    c.in-None.ensures.steps.0
