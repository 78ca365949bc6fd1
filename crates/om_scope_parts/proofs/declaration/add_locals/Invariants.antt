use Rattle.std.proofs.Common.{◌≡◌, map}
use Rattle.om_scope_tree.specs.ResolvedView as view
use Rattle.om_scope_rules.specs.Scopes.{after_local}
use Rattle.om_scope_rules.specs.StatementResolution.{resolved_declarators}
use Rattle.om_scope_rules.specs.StatementRules.{local_breaches}
use Rattle.om_scope_rules.specs.InRow.{Unbroken, made_and}
use Rattle.om_scope_parts.specs.Declares.{local_tree, locals_in}
use Rattle.om_scope_parts.proofs.declaration.add_locals.Given as goal

abbrev pub invariant-loop-declarator : goal.invariant-loop-declarator
invariant-loop-declarator l =
    let all = locals_in l.declaration in
    let left = map local_tree l.declarator-iterator in
    let before = map view.declarator l.fn.declared.items in
    let now = map view.declarator l.declared.items in
    record {
      rules : Unbroken local_breaches after_local l.fn.symbols all l.symbols left;
      resolved : made_and before (resolved_declarators l.fn.symbols all)
          ≡ made_and now (resolved_declarators l.symbols left);
    }
