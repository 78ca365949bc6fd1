use Rattle.std.proofs.Common.{refl}
use Rattle.om_scope_rules.specs.StatementResolution.{resolved_declarator}
use Rattle.om_scope_rules.specs.StatementRules.{local_breaches}
use Rattle.om_scope_rules.specs.InRow.{both_whole}
use Rattle.om_scope_parts.proofs.declaration.resolve_declarator.Goals as goal

pub returns-clause-found : goal.returns-clause-found
unfolding local_breaches resolved_declarator
returns-clause-found c = record {
  checked =
      both_whole _ _ c.in_ok-declare_name.ensures.checked
      (rw c.in_ok-declare_name.ensures.in_scope at c.in_ok-initial.ensures.checked);
  resolved =
      let initial = rw c.in_ok-declare_name.ensures.in_scope at c.in_ok-initial.ensures.resolved in
      rw (initial, c.in_ok-variable.ensures, c.length_of.ensures, c.unboxed.ensures) refl;
}
