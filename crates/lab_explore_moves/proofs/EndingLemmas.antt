-- Faults and waits of one worker more.
use Rattle.std.proofs.Common.{◌≡◌, ap, ℕ, suc, ◌+◌, ◌++◌, arith}
use Rattle.om_code.specs.declared.raw.Raw.{Raw}
use Rattle.om_state.specs.State.{State}
use Rattle.lab_explore_closed.specs.Endings.{control_at, met_in, mets_at, wait_in, waits_at}

next : (n : ℕ) → n + 1 ≡ suc n
next n = omega arith

pub mets_next : (program : Raw) (s : State) (worker : ℕ)
    → mets_at program s (worker + 1) ≡ mets_at program s worker ++ met_in program worker (control_at s worker)
mets_next program s worker = ap (mets_at program s) (next worker)

pub waits_next : (program : Raw) (workers : ℕ) (s : State) (worker : ℕ) → waits_at program workers s (worker + 1)
    ≡ waits_at program workers s worker ++ wait_in program workers s worker (control_at s worker)
waits_next program workers s worker = ap (waits_at program workers s) (next worker)
