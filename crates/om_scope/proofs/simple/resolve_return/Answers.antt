use Rattle.std.proofs.Common.{refl}
use Rattle.om_scope_tree.specs.declared.resolved.ResolvedStatement.{fold-roll-ResolvedStatement}
use Rattle.om_scope_tree.specs.declared.resolved.ResolvedStatement.TheVariants as made
use Rattle.om_scope_rules.specs.InRow.{both_whole}
use Rattle.om_scope.proofs.simple.resolve_return.Goals as goal

pub returns : goal.returns
returns c = record {
  checked = both_whole _ _ c.in_ok-check_jump.ensures c.in_ok-value.ensures.checked;
  resolved =
      rw (c.in_ok-value.ensures.resolved, ← made.rolls-Return, fold-roll-ResolvedStatement, c.unboxed.ensures) refl;
}
