-- States, and how the updates of a footprint change them.
use Rattle.std.specs.Prelude.{cond, neg_ℤ, List, [], ◌∷◌}
use Rattle.om_foot.specs.declared.object.Obj.{Obj}
use Rattle.om_foot.specs.declared.footprint.Mode.{Mode}
use Rattle.om_foot.specs.declared.footprint.Mode.TheVariants as mode
use Rattle.om_foot.specs.declared.footprint.Access.{Access}
use Rattle.om_foot.specs.Footprint.{obj_eq}
use Rattle.om_state.specs.declared.value.Val.{Val}
use Rattle.om_state.specs.declared.step.Update.{Update}
use Rattle.om_state.specs.declared.step.Update.TheVariants as update
use Rattle.om_state.specs.Values.{value_plus, value_with, items_of, value_cut}

-- what each object holds
abbrev pub State : Type 0
State = Obj → Val

-- a state with a value put at an object
abbrev pub with_value : Obj → Val → State → State
with_value o v s q = cond (obj_eq o q) v (s q)

-- a value after an update, which acts only where the mode admits it
abbrev pub value_after : Mode → Update → Val → Val
value_after mode.Write (update.Put v) old = v
value_after mode.Write (update.Append t) old = value_with t old
value_after mode.Add (update.Add d) old = value_plus d old
value_after _ _ old = old

-- what takes an update back, by the value before it: a put of that value, the number that was added, or how
-- many items there were
abbrev pub undo_of : Mode → Update → Val → Update
undo_of mode.Write (update.Put v) old = update.Put old
undo_of mode.Write (update.Append t) old = update.Cut (items_of old)
undo_of mode.Write (update.Cut n) old = update.Keep
undo_of _ u old = u

-- a value after an update is taken back
abbrev pub value_before : Mode → Update → Val → Val
value_before mode.Write (update.Put v) new = v
value_before mode.Write (update.Cut n) new = value_cut n new
value_before mode.Add (update.Add d) new = value_plus (neg_ℤ d) new
value_before _ _ new = new

-- the state after the update of one access
abbrev pub state_after : Access → Update → State → State
state_after a u s q = cond (obj_eq a.object q) (value_after a.mode u (s q)) (s q)

-- the state after the update of one access is taken back
abbrev pub state_before : Access → Update → State → State
state_before a u s q = cond (obj_eq a.object q) (value_before a.mode u (s q)) (s q)

-- the state after the updates of a footprint, made in order
abbrev pub updated : List Access → List Update → State → State
updated (a ∷ rest) (u ∷ us) s = updated rest us (state_after a u s)
updated _ _ s = s

-- what takes the updates of a footprint back: the undo record of a step
abbrev pub undo_record : List Access → List Update → State → List Update
undo_record (a ∷ rest) (u ∷ us) s = undo_of a.mode u (s a.object) ∷ undo_record rest us (state_after a u s)
undo_record _ us s = us

-- the state after the updates of a footprint are taken back, the last one first
abbrev pub taken_back : List Access → List Update → State → State
taken_back (a ∷ rest) (u ∷ us) s = state_before a u (taken_back rest us s)
taken_back _ _ s = s

-- a value in front of others, where the mode reads it
abbrev pub read_by : Mode → Val → List Val → List Val
read_by mode.Add v vs = vs
read_by mode.Read v vs = v ∷ vs
read_by mode.Write v vs = v ∷ vs

-- the values at the Read and Write objects of a footprint, in order
abbrev pub values_read : List Access → State → List Val
values_read [] s = []
values_read (a ∷ rest) s = read_by a.mode (s a.object) (values_read rest s)
