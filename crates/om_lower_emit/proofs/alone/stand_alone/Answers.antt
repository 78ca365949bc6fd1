use Rattle.om_lower_emit.proofs.Leaves.{emits_one, emits_two}
use Rattle.om_lower_emit.proofs.alone.stand_alone.Goals as goal

pub returns-in_ok-barrier-in-Barrier : goal.returns-in_ok-barrier-in-Barrier
returns-in_ok-barrier-in-Barrier c = rw c.in-Barrier.is (λ names. c.in_ok-barrier-in-Barrier.ensures names)

pub returns-in_ok-put-in-Taskwait-2 : goal.returns-in_ok-put-in-Taskwait-2
returns-in_ok-put-in-Taskwait-2 c = rw c.in-Taskwait.is (λ names. emits_two names _ _ _ _ _ _
    c.in_ok-put-in-Taskwait.ensures c.in_ok-put-in-Taskwait-2.ensures)

pub returns-in_ok-put-in-Taskyield : goal.returns-in_ok-put-in-Taskyield
returns-in_ok-put-in-Taskyield c = rw c.in-Taskyield.is
    (λ names. emits_one names _ _ _ _ c.in_ok-put-in-Taskyield.ensures)

pub returns-in_ok-put-in-Flush : goal.returns-in_ok-put-in-Flush
returns-in_ok-put-in-Flush c = rw c.in-Flush.is (λ names. emits_one names _ _ _ _ c.in_ok-put-in-Flush.ensures)
