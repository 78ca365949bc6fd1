use Rattle.om_lower_emit.proofs.Leaves.{emits_one, emits_put_then}
use Rattle.om_lower_emit.proofs.alone.worksharing_end.Goals as goal

pub returns-in_ok-barrier : goal.returns-in_ok-barrier
returns-in_ok-barrier c = rw c.if-not-nowait.true (λ names. emits_put_then names _ _ _ _ _ _ c.in_ok-put.ensures
    (c.in_ok-barrier.ensures names))

pub returns-else-not-nowait : goal.returns-else-not-nowait
returns-else-not-nowait c = rw c.if-not-nowait.false (λ names. emits_one names _ _ _ _ c.in_ok-put.ensures)
