-- How high the counters of a memory are into which values are put.
use Rattle.std.proofs.Common.{◌≡◌, Bool, true, false, cond, sym, subst, ℕ}
use Rattle.om_foot.specs.declared.object.Obj.{Obj}
use Rattle.om_foot.specs.declared.object.Obj.TheVariants as obj
use Rattle.om_foot.specs.Footprint.{obj_eq}
use Rattle.om_state.specs.declared.value.Val.{Val}
use Rattle.om_state.specs.declared.value.Val.TheVariants as value
use Rattle.om_state.specs.State.{State, with_value}
use Rattle.om_state.specs.Values.{default_of, control_in}
use Rattle.om_team.specs.Counters.{ControlWithin, ValueWithin, StateWithin}

-- the control that a value is counts no more than the value
pub control_within : (n : ℕ) (v : Val) → ValueWithin n v → ControlWithin n (control_in v)
control_within n (value.Control c) within = within
control_within n (value.Cell c) within = tt
control_within n (value.Task t) within = tt
control_within n (value.Count k) within = tt
control_within n (value.Number k) within = tt
control_within n (value.Lock w) within = tt
control_within n (value.Output bytes) within = tt
control_within n (value.Events records) within = tt

one_within : (n : ℕ) (b : Bool) (v w : Val) → ValueWithin n v → ValueWithin n w → ValueWithin n (cond b v w)
one_within n true v w first second = first
one_within n false v w first second = second

-- a value is put into a state, and neither counts higher
pub with_within : (n : ℕ) (o : Obj) (v : Val) (s t : State) → t ≡ with_value o v s → ValueWithin n v
    → StateWithin n s → StateWithin n t
with_within n o v s t put value state = subst (StateWithin n) (sym put)
    (λ q. one_within n (obj_eq o q) v (s q) value (state q))

default_value_within : (n : ℕ) (q : Obj) → ValueWithin n (default_of q)
default_value_within n (obj.Control w) = tt
default_value_within n (obj.Cell t f s i) = tt
default_value_within n (obj.Global g i) = tt
default_value_within n (obj.Task t) = tt
default_value_within n (obj.Kids t) = tt
default_value_within n (obj.Pending t p) = tt
default_value_within n (obj.Arrived t k) = tt
default_value_within n (obj.Work t r) = tt
default_value_within n (obj.Lock l) = tt
default_value_within n (obj.Group g) = tt
default_value_within n obj.Output = tt
default_value_within n (obj.Events w) = tt

-- the defaults count nothing
pub defaults_within : (n : ℕ) (s : State) → s ≡ default_of → StateWithin n s
defaults_within n s is = subst (StateWithin n) (sym is) (default_value_within n)
