-- How far a step moves counts: it puts none and adds at most one, once to each object.
use Rattle.std.specs.Prelude.{◌≡◌, Bool, true, false, cond, pos, neg_ℤ, ◌≤ℤ◌, List, [], ◌∷◌}
use Rattle.om_foot.specs.declared.object.Obj.{Obj}
use Rattle.om_foot.specs.declared.footprint.Mode.{Mode}
use Rattle.om_foot.specs.declared.footprint.Mode.TheVariants as mode
use Rattle.om_foot.specs.declared.footprint.Access.{Access}
use Rattle.om_foot.specs.Footprint.{obj_eq}
use Rattle.om_state.specs.declared.step.Update.{Update}
use Rattle.om_state.specs.declared.step.Update.TheVariants.{Put, Add}
use Rattle.om_state.specs.declared.value.Val.{Val}
use Rattle.om_state.specs.declared.value.Val.TheVariants.{Count}

abbrev pub IsNoCount : Val → Type 0
IsNoCount (Count n) = ⊥
IsNoCount _ = Unit {0}

-- an update puts no count and adds at most one
abbrev pub IsModest : Update → Type 0
IsModest (Put v) = IsNoCount v
IsModest (Add d) = (neg_ℤ (pos 1) ≤ℤ d) × (d ≤ℤ pos 1)
IsModest _ = Unit {0}

abbrev pub AreModest : List Update → Type 0
AreModest [] = Unit {0}
AreModest (u ∷ us) = IsModest u × AreModest us

-- whether accesses add at an object
abbrev pub is_add : Mode → Bool
is_add mode.Add = true
is_add _ = false

abbrev pub adds_at : List Access → Obj → Bool
adds_at [] q = false
adds_at (a ∷ rest) q = cond (is_add a.mode) (cond (obj_eq a.object q) true (adds_at rest q)) (adds_at rest q)

-- no access adds at an object at which a later one adds
abbrev pub AddOnce : List Access → Type 0
AddOnce [] = Unit {0}
AddOnce (a ∷ rest) = (is_add a.mode ≡ true → adds_at rest a.object ≡ false) × AddOnce rest
