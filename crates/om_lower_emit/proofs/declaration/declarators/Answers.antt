use Rattle.std.proofs.Common.{◌+◌, ap, drop, map}
use Rattle.std.proofs.lemmas.List.{drop_all}
use Rattle.om_scope_tree.specs.ResolvedView as view
use Rattle.om_lower_rules.specs.Coded.{DeclaratorHasCode}
use Rattle.om_lower_rules.specs.Scopes.{declarator_scope}
use Rattle.om_lower_emit.specs.Each.{all_item, begin_each, end_each, next_each}
use Rattle.om_lower_emit.proofs.ScopeStacks.{left_one}
use Rattle.om_lower_emit.specs.Scoping.{each_end, each_next, scopes_begin}
use Rattle.om_lower_emit.specs.Emits.{names_at}
use Rattle.om_lower_emit.proofs.declaration.declarators.Goals as goal

pub loop-one-init : goal.loop-one-init
loop-one-init c = (begin_each _ _ _ _ _, scopes_begin _ _ _ _)

pub declarator-requires : goal.declarator-requires
declarator-requires c = all_item DeclaratorHasCode view.declarator _ _ _ c.requires c.loop-one-test.true
    c.one-item.is

pub loop-one-preserved : goal.loop-one-preserved
loop-one-preserved c = (
  next_each _ _ _ _ _ _ _ _ _ _ c.loop-one-test.true c.one-item.is c.loop-one.invariant.0
      c.in_ok-declarator.ensures.code,
  each_next (names_at c.args.here.now) (λ at. declarator_scope at c.args.here.now.at.line) _ _
      (map view.declarator (drop (c.loop-one.one-index + 1) c.args.declared.now)) _ _ _ _ _ _ _
      (ap (map view.declarator) (left_one c.args.declared.now c.loop-one.one-index c.one-item.result
      c.loop-one-test.true c.one-item.is))
      c.loop-one.invariant.1 c.in_ok-declarator.ensures.scopes,
)

pub returns-clause-code : goal.returns-clause-code
returns-clause-code c = end_each _ _ _ _ _ _ _ _ (drop_all c.loop-one.one-index c.args.declared.now
    c.loop-one-test.false) c.loop-one.invariant.0

pub returns-clause-scopes : goal.returns-clause-scopes
returns-clause-scopes c =
    each_end (names_at c.args.here.now) (λ at. declarator_scope at c.args.here.now.at.line) _ _ _ _ _ _
    (ap (map view.declarator) (drop_all c.loop-one.one-index c.args.declared.now c.loop-one-test.false))
    c.loop-one.invariant.1
