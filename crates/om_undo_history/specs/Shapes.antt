-- Rules whose steps put controls, and nothing else, where controls stand.
use Rattle.std.specs.Prelude.{◌≡◌, Bool, true, false, List, ◌∷◌}
use Rattle.om_foot.specs.declared.footprint.Mode.{Mode}
use Rattle.om_foot.specs.declared.footprint.Mode.TheVariants as mode
use Rattle.om_foot.specs.declared.footprint.Access.{Access}
use Rattle.om_state.specs.declared.value.Val.{Val}
use Rattle.om_state.specs.declared.value.Val.TheVariants as value
use Rattle.om_state.specs.declared.step.Label.{Label}
use Rattle.om_state.specs.declared.step.Update.{Update}
use Rattle.om_state.specs.declared.step.Update.TheVariants as update
use Rattle.om_state.specs.declared.step.Outcome.TheVariants.{Updates}
use Rattle.om_state.specs.Rules.{Rules, control_access}
use Rattle.om_memory.specs.Memories.{is_trailed}

-- a value that is put at a control is a control
abbrev pub IsControl : Val → Bool → Type 0
IsControl (value.Control c) trailed = Unit {0}
IsControl v true = ⊥
IsControl v false = Unit {0}

-- at a `Write` of a control an update puts a control, and there is no `Add` of one
abbrev pub IsShapedAt : Mode → Update → Bool → Type 0
IsShapedAt mode.Write (update.Put v) trailed = IsControl v trailed
IsShapedAt mode.Write u true = ⊥
IsShapedAt mode.Add u true = ⊥
IsShapedAt _ _ _ = Unit {0}

-- and so do all updates of a footprint
abbrev pub AreShaped : List Access → List Update → Type 0
AreShaped (a ∷ rest) (u ∷ us) = IsShapedAt a.mode u (is_trailed a.object) × AreShaped rest us
AreShaped _ _ = Unit {0}

-- rules whose steps put a control at each control that they write, and add to none
pub record IsShaped (r : Rules) : Type 0 where
  pub steps : (l : Label) (control : Val) (read : List Val) (us : List Update)
      → r.outcome l (control ∷ read) ≡ Updates us → AreShaped (control_access l ∷ r.further l control) us
