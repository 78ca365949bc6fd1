-- Shapely rules are shaped.
use Rattle.std.proofs.Common.{◌≡◌, refl, subst, Bool, true, false, List, [], ◌∷◌}
use Rattle.om_foot.specs.declared.object.Obj.{Obj}
use Rattle.om_foot.specs.declared.object.Obj.TheVariants as obj
use Rattle.om_foot.specs.declared.footprint.Mode.{Mode}
use Rattle.om_foot.specs.declared.footprint.Mode.TheVariants as mode
use Rattle.om_foot.specs.declared.footprint.Access.{Access}
use Rattle.om_state.specs.declared.step.Update.{Update}
use Rattle.om_state.specs.declared.step.Update.TheVariants as update
use Rattle.om_state.specs.declared.value.Val.{Val}
use Rattle.om_state.specs.declared.value.Val.TheVariants as value
use Rattle.om_state.specs.Rules.{Rules, control_access}
use Rattle.om_memory.specs.Memories.{is_trailed}
use Rattle.om_task.specs.Shapes as rows
use Rattle.om_undo_history.specs.Shapes.{IsControl, IsShapedAt, AreShaped, IsShaped}

same_objects : (q : Obj) → rows.is_trailed q ≡ is_trailed q
same_objects (obj.Control w) = refl
same_objects (obj.Cell t f s i) = refl
same_objects (obj.Global g i) = refl
same_objects (obj.Task t) = refl
same_objects (obj.Kids t) = refl
same_objects (obj.Pending t p) = refl
same_objects (obj.Arrived t n) = refl
same_objects (obj.Work t r) = refl
same_objects (obj.Lock l) = refl
same_objects (obj.Group g) = refl
same_objects obj.Output = refl
same_objects (obj.Events w) = refl

control : (v : Val) (trailed : Bool) → rows.IsControl v trailed → IsControl v trailed
control (value.Control c) trailed h = tt
control (value.Cell c) true h = absurd h
control (value.Cell c) false h = tt
control (value.Task t) true h = absurd h
control (value.Task t) false h = tt
control (value.Count n) true h = absurd h
control (value.Count n) false h = tt
control (value.Number n) true h = absurd h
control (value.Number n) false h = tt
control (value.Lock w) true h = absurd h
control (value.Lock w) false h = tt
control (value.Output b) true h = absurd h
control (value.Output b) false h = tt
control (value.Events r) true h = absurd h
control (value.Events r) false h = tt

shaped_at : (m : Mode) (u : Update) (trailed : Bool) → rows.IsShapedAt m u trailed → IsShapedAt m u trailed
shaped_at mode.Write (update.Put v) trailed h = control v trailed h
shaped_at mode.Write update.Keep true h = absurd h
shaped_at mode.Write update.Keep false h = tt
shaped_at mode.Write (update.Add d) true h = absurd h
shaped_at mode.Write (update.Add d) false h = tt
shaped_at mode.Write (update.Append t) true h = absurd h
shaped_at mode.Write (update.Append t) false h = tt
shaped_at mode.Write (update.Cut n) true h = absurd h
shaped_at mode.Write (update.Cut n) false h = tt
shaped_at mode.Read u trailed h = tt
shaped_at mode.Add u true h = absurd h
shaped_at mode.Add u false h = tt

all_shaped : (accesses : List Access) (us : List Update) → rows.AreShaped accesses us → AreShaped accesses us
all_shaped [] us h = tt
all_shaped (a ∷ rest) [] h = tt
all_shaped (a ∷ rest) (u ∷ us) h = (
  subst (IsShapedAt a.mode u) (same_objects a.object) (shaped_at a.mode u (rows.is_trailed a.object) h.0),
  all_shaped rest us h.1,
)

pub shaped_rules : (r : Rules) → rows.IsShapely r → IsShaped r
shaped_rules r h = record {
  steps = λ l control read us e.
      all_shaped (control_access l ∷ r.further l control) us (h.shaped l control read us e);
}
