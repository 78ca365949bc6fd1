use Rattle.std.proofs.Common.{◌≡◌, map}
use Rattle.om_scope_tree.specs.ResolvedView as view
use Rattle.om_scope_rules.specs.DirectiveRules.{after_name, listed_breaches, names_in, sharing_of}
use Rattle.om_scope_rules.specs.InRow.{Unbroken, made_and}
use Rattle.om_scope_rules.specs.Perhaps.{each}
use Rattle.om_scope_rules.specs.StatementResolution.{resolved_listed}
use Rattle.om_scope_parts.proofs.directive.list_names.Given as goal

abbrev pub invariant-loop-name : goal.invariant-loop-name
invariant-loop-name l =
    let all = names_in l.first l.rest in
    let left = l.name-iterator in
    let before = map view.clause l.fn.clauses.items in
    let now = map view.clause l.clauses.items in
    record {
      rules : Unbroken (listed_breaches l.listing.symbols.now (sharing_of l.listing.kind))
          (after_name (sharing_of l.listing.kind)) l.fn.listed all l.listed left;
      resolved : made_and before (each (resolved_listed l.listing.kind l.listing.symbols.now) all)
          ≡ made_and now (each (resolved_listed l.listing.kind l.listing.symbols.now) left);
    }
