use Rattle.std.proofs.Common.{◌≡◌, ◌∙◌, ap, ◌++◌, ◌-◌, ◌+◌, arith}
use Rattle.om_state.specs.Runs.{puts_of}
use Rattle.om_state.proofs.RunLists.{puts_past}
use Rattle.om_state.proofs.puts.push_each.Goals as goal

pub loop-index-preserved : goal.loop-index-preserved
loop-index-preserved c =
    ap (λ updates. updates ++ puts_of c.args.run.now.cell (c.args.run.now.count - (c.loop-index._index + 1)))
    (c.in_ok-push.ensures.added)
    ∙ puts_past c.loop-index.updates c.args.run.now.cell c.loop-index._index c.args.run.now.count
    (omega (arith, c.loop-index-test.true))
    ∙ c.loop-index.invariant
