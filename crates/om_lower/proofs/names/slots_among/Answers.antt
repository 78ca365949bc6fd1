use Rattle.om_lower_rules.specs.Scopes.{slot_among}
use Rattle.om_lower.proofs.NamesMapped.{mapped_next}
use Rattle.om_lower.proofs.names.slots_among.Goals as goal

pub loop-variable-preserved : goal.loop-variable-preserved
loop-variable-preserved c =
    mapped_next (slot_among c.args.outer.now) c.loop-variable.slots.items c.push.new.self.items c.args.variables.now
    c.loop-variable.variable-index c.slot_among.result
    (rw c.as_slice-variable-items.ensures at c.loop-variable-test.true)
    (rw c.as_slice-variable-items.ensures at c.slot_among.ensures)
    c.in_ok-push.ensures.items c.loop-variable.invariant
