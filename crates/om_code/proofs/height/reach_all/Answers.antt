use Rattle.std.proofs.Common.{◌<◌, slice_index_or, sym, subst, arith}
use Rattle.om_code.proofs.Noting.{Contains-at}
use Rattle.om_code.proofs.height.reach_all.Goals as goal

pub reach-requires : goal.reach-requires
reach-requires c = subst (λ n. slice_index_or c.args.places.now c.loop-to.to-index 0 < n)
    (sym c.loop-to.invariant.2)
    (c.requires _ (Contains-at c.args.places.now c.loop-to.to-index (let t = c.loop-to-test.true in omega arith)))
