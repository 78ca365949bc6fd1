use Rattle.om_cells.proofs.SlotLemmas.{grows_more}
use Rattle.om_cells.proofs.slots.grow.Goals as goal

pub loop-values-preserved : goal.loop-values-preserved
loop-values-preserved c = grows_more c.args.values.now.items c.loop-values.values.items c.push.new.self.items
    c.loop-values.invariant c.in_ok-push.ensures.items
