-- The names of the tasks that are ready.
use Rattle.std.specs.Prelude.{◌≡◌, ◌∷◌, ℕ, List, [], None, refl}
use Rattle.std.proofs.Common.{ap}
use Rattle.om_state.specs.Ready.{AreReady, names_behind}
use Rattle.om_undo.specs.Laws.{OneReadyList, ReadyNamesAreReady}
use Rattle.om_undo.specs.Machines.{MachineView, state_in}
use Rattle.om_undo.specs.ReadyNames.{ready_names}

pub all_ready : OneReadyList → ReadyNamesAreReady → (m : MachineView) (names : List (List ℕ))
    → AreReady (state_in m) names → names ≡ ready_names m
all_ready one_list are_ready m names ready = one_list (state_in m) names (ready_names m) ready (are_ready m)

-- all names are behind none
pub all_behind_none : (names : List (List ℕ)) → names_behind None names ≡ names
all_behind_none [] = refl
all_behind_none (name ∷ names) = ap (λ more. name ∷ more) (all_behind_none names)
