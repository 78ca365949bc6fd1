-- Matter of proofs, for om_task: a control that is read of a state with low counters has low counters.
use Rattle.std.proofs.Common.{◌≡◌, sym, subst, ℕ}
use Rattle.om_foot.specs.declared.object.Obj.TheVariants as obj
use Rattle.om_state.specs.declared.control.Control as controls
use Rattle.om_state.specs.declared.value.Val.{Val}
use Rattle.om_state.specs.declared.value.Val.TheVariants as value
use Rattle.om_state.specs.State.{State}
use Rattle.om_state.specs.Values.{control_in}
use Rattle.om_team.specs.Counters.{ControlWithin, ValueWithin, StateWithin}

control_read : (n : ℕ) (v : Val) → ValueWithin n v → ControlWithin n (control_in v)
control_read n (value.Control c) h = h
control_read n (value.Task c) h = tt
control_read n (value.Cell c) h = tt
control_read n (value.Count k) h = tt
control_read n (value.Number k) h = tt
control_read n (value.Lock k) h = tt
control_read n (value.Output k) h = tt
control_read n (value.Events k) h = tt

pub control_within : (n worker : ℕ) (s : State) (c : controls.Control) → c ≡ control_in (s (obj.Control worker))
    → StateWithin n s → ControlWithin n c
control_within n worker s c e h = subst (ControlWithin n) (sym e) (control_read n (s (obj.Control worker))
    (h (obj.Control worker)))
