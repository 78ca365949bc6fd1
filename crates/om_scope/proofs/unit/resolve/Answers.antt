use Rattle.std.proofs.Common.{refl, subst}
use Rattle.std.specs.Prelude.{IfSome, IsSomeAnd}
use Rattle.om_parser_tree.specs.View.{view_unit}
use Rattle.om_scope_tree.specs.Beside.{TreeAtomicsAssign}
use Rattle.om_scope_tree.specs.ResolvedView as view
use Rattle.om_scope_tree.specs.Whole.{IsWholeTree}
use Rattle.om_scope_rules.specs.Breaches.{breaches_of}
use Rattle.om_scope_rules.specs.UnitResolution.{resolution_of}
use Rattle.om_scope.proofs.Propers.{unit_proper}
use Rattle.om_scope.proofs.unit.resolve.Goals as goal

pub resolve_items-requires : goal.resolve_items-requires
resolve_items-requires c = record {
  proper = rw c.as_slice.ensures.value (unit_proper (view_unit c.args.unit) c.requires.formed
      c.requires.atomics_have_forms);
}

pub returns-clause-is_resolved : goal.returns-clause-is_resolved
unfolding breaches_of resolution_of
returns-clause-is_resolved c =
    let rules = rw c.as_slice.ensures.value at c.in_ok-resolved.ensures.checked in
    let made = rw c.as_slice.ensures.value at c.in_ok-resolved.ensures.resolved in
    c.unbroken_trees_are_resolved.ensures (view_unit c.args.unit) (view.resolved c.in_ok-resolved.resolved)
    (rw (rules, c.in_ok-check_main.ensures) refl) made

pub returns-clause-whole : goal.returns-clause-whole
unfolding breaches_of resolution_of
returns-clause-whole c =
    let rules = rw c.as_slice.ensures.value at c.in_ok-resolved.ensures.checked in
    let made = rw c.as_slice.ensures.value at c.in_ok-resolved.ensures.resolved in
    subst (λ found. IsSomeAnd found IsWholeTree) made
    (c.unbroken_trees_are_whole.ensures (view_unit c.args.unit) c.requires.formed c.requires.atomics_have_forms
    (rw (rules, c.in_ok-check_main.ensures) refl))

pub returns-clause-atomics_assign : goal.returns-clause-atomics_assign
unfolding resolution_of
returns-clause-atomics_assign c =
    let made = rw c.as_slice.ensures.value at c.in_ok-resolved.ensures.resolved in
    subst (λ found. IfSome found TreeAtomicsAssign) made (c.atomics_assign.ensures (view_unit c.args.unit)
    c.requires.atomics_have_forms)

pub returns-clause-resolved : goal.returns-clause-resolved
unfolding resolution_of
returns-clause-resolved c =
    let made = rw c.as_slice.ensures.value at c.in_ok-resolved.ensures.resolved in
    made
