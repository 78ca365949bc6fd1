use Rattle.std.proofs.Common.{refl}
use Rattle.om_scope_tree.specs.declared.resolved.ResolvedStatement.{fold-roll-ResolvedStatement}
use Rattle.om_scope_tree.specs.declared.resolved.ResolvedStatement.TheVariants as made
use Rattle.om_scope.proofs.assembly.parallel_of.Goals as goal

pub returns-clause-made : goal.returns-clause-made
returns-clause-made c =
    let captures = rw (c.as_slice.ensures.value, c.deref.ensures, c.in_ok-body.ensures) at c.in_ok-captures.ensures in
    rw (← made.rolls-Region, fold-roll-ResolvedStatement, captures, c.in_ok-body.ensures) refl
