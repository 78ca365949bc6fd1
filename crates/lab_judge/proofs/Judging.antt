-- Where nothing is bad.
use Rattle.std.proofs.Common.{◌≡◌, ℕ, false, List, Option, None, Some}
use Rattle.om_code.specs.declared.frame.Fault.{Fault}
use Rattle.lab_judge.specs.declared.judge.Badness.{Badness}
use Rattle.lab_judge.specs.declared.judge.Badness.TheVariants as badness
use Rattle.lab_judge.specs.Bad.{IsBad, IsFaulted, NoneFaulted, NoneMoves, control_of}
use Rattle.om_undo.specs.Machines.{MachineView}
use Rattle.om_shell_debugger.specs.Runs.{has_ended}

none_faulted : (m : MachineView) (fault : Fault) (worker line : ℕ) → NoneFaulted m → IsFaulted m fault worker line → ⊥
none_faulted m fault worker line none bad =
    let e = none worker bad.is_worker in
    cc

-- a program that can go on
pub good_before_end : (m : MachineView) (wanted : Option (List ℕ)) → NoneFaulted m
    → has_ended (control_of m 0) ≡ false → (NoneMoves m → ⊥) → (why : Badness) → IsBad m wanted why → ⊥
good_before_end m None none going moves badness.Output bad = bad
good_before_end m (Some text) none going moves badness.Output bad = cc
good_before_end m wanted none going moves (badness.Fault fault worker line) bad =
    none_faulted m fault worker line none bad
good_before_end m wanted none going moves badness.Stuck bad = moves bad.no_move
