-- Calm rules are steady.
use Rattle.std.proofs.Common.{◌≡◌, refl, ℤ, pos, arith, Bool, true, false, cond, List, [], ◌∷◌}
use Rattle.std.proofs.lemmas.Int.{ints}
use Rattle.om_foot.specs.declared.object.Obj.{Obj}
use Rattle.om_foot.specs.declared.footprint.Mode.{Mode}
use Rattle.om_foot.specs.declared.footprint.Mode.TheVariants as mode
use Rattle.om_foot.specs.declared.footprint.Access.{Access}
use Rattle.om_foot.specs.Footprint.{obj_eq}
use Rattle.om_state.specs.declared.step.Update.{Update}
use Rattle.om_state.specs.declared.step.Update.TheVariants as update
use Rattle.om_state.specs.declared.value.Val.{Val}
use Rattle.om_state.specs.declared.value.Val.TheVariants as value
use Rattle.om_state.specs.declared.value.Val.TheVariants.{Count}
use Rattle.om_state.specs.Rules.{Rules, control_access}
use Rattle.om_task.specs.Laws.{IsCalm}
use Rattle.om_undo_history.specs.Bounds.{IsSmall, is_addition, adds_to, IsSteadyAt, AreSteady, IsSteady}
use Rattle.om_task.specs.Steps.{is_add, adds_at, AddOnce, IsNoCount, IsModest, AreModest}

none_further : (here same more rest added : Bool) → (here ≡ true → added ≡ true) → cond added (cond same true more)
    more ≡ false → (more ≡ false → rest ≡ false) → cond here (cond same true rest) rest ≡ false
none_further true true more rest true h e k = cc
none_further true false more rest true h e k = k e
none_further true same more rest false h e k = cc (h refl)
none_further false true more rest true h e k = cc
none_further false false more rest true h e k = k e
none_further false same more rest false h e k = k e

is_added : (m : Mode) (u : Update) → is_addition m u ≡ true → is_add m ≡ true
is_added mode.Add u h = refl
is_added mode.Read u h = cc
is_added mode.Write u h = cc

-- where no access adds at an object, no update does
not_added : (accesses : List Access) (us : List Update) (q : Obj) → adds_at accesses q ≡ false → adds_to accesses us
    q ≡ false
not_added [] us q h = refl
not_added (a ∷ rest) [] q h = refl
not_added (a ∷ rest) (u ∷ us) q h = none_further (is_addition a.mode u) (obj_eq a.object q) (adds_at rest q)
    (adds_to rest us q) (is_add a.mode) (is_added a.mode u) h (not_added rest us q)

no_count : (v : Val) → IsNoCount v → IsSmall 0 v
no_count (value.Count n) h = absurd h
no_count (value.Control c) h = tt
no_count (value.Cell c) h = tt
no_count (value.Task t) h = tt
no_count (value.Number k) h = tt
no_count (value.Lock k) h = tt
no_count (value.Output k) h = tt
no_count (value.Events k) h = tt

steady_at : (m : Mode) (u : Update) (again : Bool) → IsModest u → (is_add m ≡ true → again ≡ false)
    → IsSteadyAt 0 m u again
steady_at mode.Write (update.Put v) again h k = no_count v h
steady_at mode.Write (update.Add d) again h k = tt
steady_at mode.Write update.Keep again h k = tt
steady_at mode.Write (update.Append t) again h k = tt
steady_at mode.Write (update.Cut n) again h k = tt
steady_at mode.Add (update.Add d) again h k = (h, k refl)
steady_at mode.Add (update.Put v) again h k = tt
steady_at mode.Add update.Keep again h k = tt
steady_at mode.Add (update.Append t) again h k = tt
steady_at mode.Add (update.Cut n) again h k = tt
steady_at mode.Read u again h k = tt

all_steady : (accesses : List Access) (us : List Update) → AddOnce accesses → AreModest us → AreSteady 0 accesses us
all_steady [] us h k = tt
all_steady (a ∷ rest) [] h k = tt
all_steady (a ∷ rest) (u ∷ us) h k = (
  steady_at a.mode u (adds_to rest us a.object) k.0
      (λ e. not_added rest us a.object (h.0 e)),
  all_steady rest us h.1 k.1,
)

small_start : (v : Val) → ((n : ℤ) → v ≡ value.Count n → n ≡ pos 0) → IsSmall 0 v
small_start (value.Count n) h = let e : n ≡ pos 0 = h n refl in (omega (arith, ints, e), omega (arith, ints, e))
small_start (value.Control c) h = tt
small_start (value.Cell c) h = tt
small_start (value.Task t) h = tt
small_start (value.Number k) h = tt
small_start (value.Lock k) h = tt
small_start (value.Output k) h = tt
small_start (value.Events k) h = tt

pub steady_rules : (r : Rules) → IsCalm r → IsSteady r
steady_rules r h = record {
  start = λ q. small_start (r.start q) (λ n e. h.start q n e);
  steps = λ l control read us e. all_steady (control_access l ∷ r.further l control) us (h.once l control)
      (h.modest l (control ∷ read) us e);
}
