-- A memory as a state, what it keeps, and what its trails keep.
use Rattle.std.specs.Prelude.{◌≡◌, ℕ, Bool, true, cond, Option, None, Some, is_some, List, [], ◌∷◌, map, drop, slice_get}
use Rattle.om_foot.specs.declared.object.Obj.{Obj}
use Rattle.om_foot.specs.declared.object.Obj.TheVariants as obj
use Rattle.om_foot.specs.Footprint.{obj_eq}
use Rattle.om_state.specs.declared.control.Control as plain_controls
use Rattle.om_state.specs.declared.control.Control.TheVariants as plain
use Rattle.om_state.specs.declared.value.Val.{Val}
use Rattle.om_state.specs.declared.value.Val.TheVariants as value
use Rattle.om_state.specs.State.{State}
use Rattle.om_cells.specs.Stores as values
use Rattle.om_memory.specs.declared.control.Control.{Control}
use Rattle.om_memory.specs.declared.memory.Memory.{Memory}
use Rattle.om_memory.specs.Plain.{plain_control}
use Rattle.om_memory.specs.Trails.{TrailView}
pub use Rattle.om_memory.specs.Inverses.{first_or}

-- the worker whose control an object is
abbrev pub worker_of : Obj → Option ℕ
worker_of (obj.Control w) = Some w
worker_of _ = None

-- whether an object's changes are kept in a trail
abbrev pub is_trailed : Obj → Bool
is_trailed o = is_some (worker_of o)

-- the plain control that a live one stands for, where there is one, else an idle one
abbrev pub plain_or_idle : Option Control → plain_controls.Control
plain_or_idle None = plain.Idle
plain_or_idle (Some c) = plain_control c

-- the control of a trail: a worker that has none is idle
abbrev pub trail_now : Option TrailView → plain_controls.Control
trail_now None = plain.Idle
trail_now (Some t) = t.now

abbrev pub trail_past : Option TrailView → List plain_controls.Control
trail_past None = []
trail_past (Some t) = t.past

-- what each object holds, by the trails of the workers and the other values
abbrev pub held_by : List TrailView → State → State
held_by ts s (obj.Control w) = value.Control (trail_now (slice_get ts w))
held_by ts s q = s q

unfoldable pub state_of : Memory → State
state_of l = held_by l.trails.items (values.state_of l.values)

-- whether each object is kept, so that a value that it had can be put back without a request for memory
abbrev pub kept_by : List TrailView → (Obj → Bool) → Obj → Bool
kept_by ts kept (obj.Control w) = is_some (slice_get ts w)
kept_by ts kept q = kept q

unfoldable pub is_kept : Memory → Obj → Bool
is_kept l = kept_by l.trails.items (values.is_kept l.values)

-- what each object held before each change that its trail keeps, the latest first
abbrev pub Pasts : Type 0
Pasts = Obj → List Val

abbrev pub pasts_by : List TrailView → Pasts
pasts_by ts (obj.Control w) = map value.Control (trail_past (slice_get ts w))
pasts_by ts q = []

unfoldable pub pasts_of : Memory → Pasts
pasts_of l = pasts_by l.trails.items

-- the trails with one value more: that before a change
abbrev pub noted_at : Obj → State → Pasts → Pasts
noted_at o s ps q = cond (obj_eq o q) (s q ∷ ps q) (ps q)

-- the trails without their latest value
abbrev pub popped_at : Obj → Pasts → Pasts
popped_at o ps q = cond (obj_eq o q) (drop 1 (ps q)) (ps q)

-- the trails where one begins anew
abbrev pub begun_at : Obj → Pasts → Pasts
begun_at o ps q = cond (obj_eq o q) [] (ps q)

-- the control of a worker, and what it was before its changes, by the trails
abbrev pub now_at : List TrailView → ℕ → plain_controls.Control
now_at ts w = trail_now (slice_get ts w)

abbrev pub past_at : List TrailView → ℕ → List plain_controls.Control
past_at ts w = trail_past (slice_get ts w)

-- trails to which idle ones were added, behind them
pub record GrowTo (ts us : List TrailView) : Type 0 where
  pub now : (w : ℕ) → now_at us w ≡ now_at ts w
  pub past : (w : ℕ) → past_at us w ≡ past_at ts w
  pub kept : (w : ℕ) → is_some (slice_get ts w) ≡ true → is_some (slice_get us w) ≡ true
