-- The contexts of a worker.
use Rattle.std.specs.Prelude.{ℕ, ◌+◌, List, [], ◌∷◌}
use Rattle.om_foot.specs.declared.object.Obj.TheVariants as obj
use Rattle.om_state.specs.declared.control.Context.{Context}
use Rattle.om_state.specs.declared.control.Control as controls
use Rattle.om_state.specs.declared.control.Control.TheVariants.{Idle, Running, Faulted, Ended}
use Rattle.om_state.specs.State.{State}
use Rattle.om_state.specs.Values.{control_in}

-- those of a worker that runs or met a fault, the innermost first
abbrev pub contexts_of : controls.Control → List Context
contexts_of (Running stack) = stack.top ∷ stack.below
contexts_of (Faulted fault stack) = stack.top ∷ stack.below
contexts_of Idle = []
contexts_of (Ended result) = []

abbrev pub contexts_at : State → ℕ → List Context
contexts_at s worker = contexts_of (control_in (s (obj.Control worker)))

-- the sum of a number of each
abbrev pub tally : (Context → ℕ) → List Context → ℕ
tally number [] = 0
tally number (c ∷ contexts) = number c + tally number contexts
