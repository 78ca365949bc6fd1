use Rattle.om_lower_emit.proofs.Labels.{labels_next}
use Rattle.om_lower_emit.proofs.draft.Draft.fresh_labels.Goals as goal

pub loop-preserved : goal.loop-preserved
loop-preserved c =
    labels_next _ _ c.loop.counter c.in_ok-label.label c.args.self.now c.loop.self c.fresh.new.self c.loop.invariant
    c.in_ok-label.ensures
    c.in_ok-push.ensures.items
