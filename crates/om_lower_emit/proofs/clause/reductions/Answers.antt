use Rattle.std.proofs.lemmas.List.{drop_all}
use Rattle.om_lower_emit.specs.Each.{begin_each, end_each, next_each}
use Rattle.om_lower_emit.proofs.clause.reductions.Goals as goal

pub loop-clause-init : goal.loop-clause-init
loop-clause-init c = begin_each _ _ _ _ _

pub loop-clause-preserved : goal.loop-clause-preserved
loop-clause-preserved c = next_each _ _ _ _ _ _ _ _ _ _ c.loop-clause-test.true c.clause-item.is
    c.loop-clause.invariant c.in_ok-combine_clause.ensures

pub returns : goal.returns
returns c = end_each _ _ _ _ _ _ _ _ (drop_all c.loop-clause.clause-index c.args.clauses.now
    c.loop-clause-test.false) c.loop-clause.invariant
