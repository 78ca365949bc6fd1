use Rattle.std.proofs.Common.{◌≡◌, ◌<◌, ℕ, None}
use Rattle.lab_judge.specs.Bad.{control_of, fault_of}
use Rattle.lab_judge.proofs.judge.first_fault.Given as goal

-- none of the workers so far met a fault
abbrev pub invariant-loop-worker : goal.invariant-loop-worker
invariant-loop-worker l = (k : ℕ) → k < l.worker → fault_of (control_of l.machine k) ≡ None
