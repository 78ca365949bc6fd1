-- How far steps move counts, and when sums of counts fit into 128 bits.
use Rattle.std.specs.Prelude.{◌≡◌, Bool, true, false, cond, ℕ, pos, neg_ℤ, ◌≤ℤ◌, List, ◌∷◌, length}
use Rattle.om_foot.specs.declared.object.Obj.{Obj}
use Rattle.om_foot.specs.declared.footprint.Mode.{Mode}
use Rattle.om_foot.specs.declared.footprint.Mode.TheVariants as mode
use Rattle.om_foot.specs.declared.footprint.Access.{Access}
use Rattle.om_foot.specs.Footprint.{obj_eq}
use Rattle.om_state.specs.declared.value.Val.{Val}
use Rattle.om_state.specs.declared.value.Val.TheVariants.{Count}
use Rattle.om_state.specs.declared.step.Label.{Label}
use Rattle.om_state.specs.declared.step.Update.{Update}
use Rattle.om_state.specs.declared.step.Update.TheVariants as update
use Rattle.om_state.specs.declared.step.Outcome.TheVariants.{Updates}
use Rattle.om_state.specs.Values.{SumFits}
use Rattle.om_state.specs.State.{State, state_after, taken_back}
use Rattle.om_state.specs.Rules.{Rules, control_access}
use Rattle.om_undo_history.specs.Runs.{no_history, state_of_entries}
use Rattle.om_undo_history.specs.Commands.{Command, run}

-- a value, if it is a count, is at most m from 0
abbrev pub IsSmall : ℕ → Val → Type 0
IsSmall m (Count n) = (neg_ℤ (pos m) ≤ℤ n) × (n ≤ℤ pos m)
IsSmall m _ = Unit {0}

-- every count of a state is at most m from 0
abbrev pub AreSmall : ℕ → State → Type 0
AreSmall m s = (q : Obj) → IsSmall m (s q)

-- whether an update adds
abbrev pub is_addition : Mode → Update → Bool
is_addition mode.Add (update.Add d) = true
is_addition _ _ = false

-- whether the updates of a footprint add at an object
abbrev pub adds_to : List Access → List Update → Obj → Bool
adds_to (a ∷ rest) (u ∷ us) q = cond (is_addition a.mode u) (cond (obj_eq a.object q) true (adds_to rest us q))
    (adds_to rest us q)
adds_to _ _ q = false

-- an update puts no count that is farther than m from 0, and adds at most one to an object that isn't added to again
abbrev pub IsSteadyAt : ℕ → Mode → Update → Bool → Type 0
IsSteadyAt m mode.Write (update.Put v) again = IsSmall m v
IsSteadyAt m mode.Add (update.Add d) again = IsSmall 1 (Count d) × (again ≡ false)
IsSteadyAt m _ _ again = Unit {0}

-- the updates of a footprint put no count that is farther than m from 0, and add at most one to each object
abbrev pub AreSteady : ℕ → List Access → List Update → Type 0
AreSteady m (a ∷ rest) (u ∷ us) = IsSteadyAt m a.mode u (adds_to rest us a.object) × AreSteady m rest us
AreSteady m _ _ = Unit {0}

-- rules whose start has no count but 0, and whose steps put no count but 0 and add at most one to each object
pub record IsSteady (r : Rules) : Type 0 where
  pub start : AreSmall 0 r.start
  pub steps : (l : Label) (control : Val) (read : List Val) (us : List Update)
      → r.outcome l (control ∷ read) ≡ Updates us → AreSteady 0 (control_access l ∷ r.further l control) us

-- after any run under steady rules no count is farther from 0 than there are entries
abbrev pub SmallCounts : Type 0
SmallCounts = (r : Rules) → IsSteady r → (cs : List Command)
    → let es = (run r no_history cs).entries in AreSmall (length es) (state_of_entries r es)

-- the counts before and after these updates fit into 128 bits
abbrev pub FitsAt : Mode → Update → Val → Type 0
FitsAt mode.Add (update.Add d) v = SumFits v (pos 0) × SumFits v d
FitsAt _ _ v = Unit {0}

abbrev pub FitsAll : List Access → List Update → State → Type 0
FitsAll (a ∷ rest) (u ∷ us) s = FitsAt a.mode u (s a.object) × FitsAll rest us (state_after a u s)
FitsAll _ _ s = Unit {0}

-- and so do the counts after they are taken back
abbrev pub FitsAtBack : Mode → Update → Val → Type 0
FitsAtBack mode.Add (update.Add d) v = SumFits v (neg_ℤ d)
FitsAtBack _ _ v = Unit {0}

abbrev pub FitsBack : List Access → List Update → State → Type 0
FitsBack (a ∷ rest) (u ∷ us) s = FitsAtBack a.mode u (taken_back rest us s a.object) × FitsBack rest us s
FitsBack _ _ s = Unit {0}
