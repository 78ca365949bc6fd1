-- The undo records that small ones stand for.
--
-- A small record has an update for each access behind the first, and keeps no copy of a control. Its first access, its
-- worker's control, and each `Keep` at a `Write` of another one are marks: the control before is in the trail of that
-- worker. Records take their values from the trails one after the other, the latest record first, and in a record the
-- last access first.
use Rattle.std.specs.Prelude.{◌≡◌, ℕ, ◌<◌, length, Bool, true, false, cond, List, [], ◌∷◌, drop}
use Rattle.om_foot.specs.declared.object.Obj.TheVariants as obj
use Rattle.om_foot.specs.declared.footprint.Mode.{Mode}
use Rattle.om_foot.specs.declared.footprint.Mode.TheVariants as mode
use Rattle.om_foot.specs.declared.footprint.Access.{Access}
use Rattle.om_foot.specs.Footprint.{obj_eq}
use Rattle.om_state.specs.declared.value.Val.{Val}
use Rattle.om_state.specs.declared.step.Update.{Update}
use Rattle.om_state.specs.declared.step.Update.TheVariants as update
use Rattle.om_state.specs.State.{State, undo_of, state_after}
use Rattle.om_memory.specs.Memories.{Pasts, is_trailed}
use Rattle.om_undo_history.specs.declared.records.UndoRecord.{UndoRecord}
use Rattle.om_undo_history.specs.Bounds.{FitsBack}

abbrev pub is_mark : Mode → Update → Bool → Bool
is_mark mode.Write update.Keep trailed = trailed
is_mark _ _ trailed = false

-- whether an update of a small record is a mark
abbrev pub marks : Access → Update → Bool
marks a u = is_mark a.mode u (is_trailed a.object)

-- the trails without the latest value of a mark's object
abbrev pub popped : Access → Update → Pasts → Pasts
popped a u ps q = cond (marks a u) (cond (obj_eq a.object q) (drop 1 (ps q)) (ps q)) (ps q)

-- the put of the first of these values, where there is one
abbrev pub first_put : Update → List Val → Update
first_put u [] = u
first_put u (v ∷ vs) = update.Put v

-- what an update of a small record stands for: a mark for the put of its object's latest value
abbrev pub filled_at : Access → Update → Pasts → Update
filled_at a u ps = cond (marks a u) (first_put u (ps a.object)) u

-- the trails without what the marks of a footprint take, the last one first
abbrev pub popped_all : List Access → List Update → Pasts → Pasts
popped_all (a ∷ rest) (u ∷ us) ps = popped a u (popped_all rest us ps)
popped_all _ _ ps = ps

-- what the updates of a small record stand for, by the trails behind its step
abbrev pub filled : List Access → List Update → Pasts → List Update
filled (a ∷ rest) (u ∷ us) ps = filled_at a u (popped_all rest us ps) ∷ filled rest us ps
filled _ us ps = us

-- the updates of a small record, with the mark of its worker's control
abbrev pub marked_back : UndoRecord → List Update
marked_back k = update.Keep ∷ k.back

-- the record that a small one stands for, by the trails behind its step
abbrev pub full : Pasts → UndoRecord → UndoRecord
full ps k = record k { back = filled k.footprint (marked_back k) ps }

-- the trails before a step
abbrev pub before : Pasts → UndoRecord → Pasts
before ps k = popped_all k.footprint (marked_back k) ps

-- the trails before some steps
abbrev pub before_all : Pasts → List UndoRecord → Pasts
before_all ps [] = ps
before_all ps (k ∷ ks) = before (before_all ps ks) k

-- the records that small ones stand for, by the trails behind the last step
abbrev pub full_all : Pasts → List UndoRecord → List UndoRecord
full_all ps [] = []
full_all ps (k ∷ ks) = full (before_all ps ks) k ∷ full_all ps ks

-- what a step makes of small records and trails

abbrev pub is_put : Mode → Update → Bool → Bool
is_put mode.Write (update.Put v) trailed = trailed
is_put _ _ trailed = false

-- whether an update puts a control, so that its trail keeps the one before
abbrev pub notes : Access → Update → Bool
notes a u = is_put a.mode u (is_trailed a.object)

-- what a small record holds of an update at a state: a mark where it puts a control, else what takes it back
abbrev pub small_at : Access → Update → State → Update
small_at a u s = cond (notes a u) update.Keep (undo_of a.mode u (s a.object))

-- the trails after an update at a state
abbrev pub noted : Access → Update → State → Pasts → Pasts
noted a u s ps q = cond (notes a u) (cond (obj_eq a.object q) (s q ∷ ps q) (ps q)) (ps q)

-- what a small record holds of the updates of a footprint
abbrev pub small_record : List Access → List Update → State → List Update
small_record (a ∷ rest) (u ∷ us) s = small_at a u s ∷ small_record rest us (state_after a u s)
small_record _ us s = us

-- the trails after the updates of a footprint
abbrev pub noted_all : List Access → List Update → State → Pasts → Pasts
noted_all (a ∷ rest) (u ∷ us) s ps = noted_all rest us (state_after a u s) (noted a u s ps)
noted_all _ _ s ps = ps

-- what is asked of small records and trails

-- something is so, if an object is a control, which is written; it is not added to
abbrev pub IfWritten : Bool → Mode → Type 0 → Type 0
IfWritten true mode.Write P = P
IfWritten true mode.Add P = ⊥
IfWritten _ _ P = Unit {0}

-- something is so, if an access writes a control; none adds to one
abbrev pub IfControl : Access → Type 0 → Type 0
IfControl a P = IfWritten (is_trailed a.object) a.mode P

-- where a control is written, a small record has a mark
abbrev pub AreMarked : List Access → List Update → Type 0
AreMarked (a ∷ rest) (u ∷ us) = IfControl a (u ≡ update.Keep) × AreMarked rest us
AreMarked _ _ = Unit {0}

-- and its trail a value, when the marks behind it have taken theirs
abbrev pub HavePasts : List Access → List Update → Pasts → Type 0
HavePasts (a ∷ rest) (u ∷ us) ps = IfControl a (0 < length (popped_all rest us ps a.object)) × HavePasts rest us ps
HavePasts _ _ ps = Unit {0}

-- a small record can take its updates back: it is marked, the trails have what its marks take, and its sums fit
pub record CanTakeBack (footprint : List Access) (small : List Update) (s : State) (ps : Pasts) : Type 0 where
  pub marked : AreMarked footprint small
  pub pasts : HavePasts footprint small ps
  pub fits : FitsBack footprint (filled footprint small ps) s

-- an access of a worker's control
abbrev pub control_at : ℕ → Mode → Access
control_at w m = record { object = obj.Control w; mode = m }
