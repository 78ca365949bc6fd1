-- The frames that ran.
use Rattle.std.specs.Prelude.{◌≡◌, ℕ, List, ◌++◌, Some, slice_get, IsSomeAnd}
use Rattle.om_foot.specs.declared.object.Obj.TheVariants as obj
use Rattle.om_code.specs.declared.raw.Raw.{Raw}
use Rattle.om_code.specs.declared.raw.Source.TheVariants.{Own}
use Rattle.om_code.specs.Places.{slots_of}
use Rattle.om_state.specs.declared.control.Control.TheVariants.{Running}
use Rattle.om_state.specs.declared.control.Stack.{Stack}
use Rattle.om_state.specs.declared.step.Label.{Label}
use Rattle.om_state.specs.declared.value.Val.TheVariants.{Control}
use Rattle.om_state.specs.Rules.{replay}
use Rattle.om_state.specs.State.{State}
use Rattle.om_task.specs.Rules.{rules_of}

-- after some of the first steps of a run a worker ran the frame of this task and ordinal, and the body of that frame
-- has in this slot so many cells of its own
pub record HasRun (program : Raw) (workers : ℕ) (ls : List Label) (task : List ℕ) (frame slot cells : ℕ) : Type 0 where
  pub before : List Label
  pub after : List Label
  pub parts : before ++ after ≡ ls
  pub state : State
  pub reached : replay (rules_of program workers) before ≡ Some state
  pub worker : ℕ
  pub stack : Stack
  pub runs : state (obj.Control worker) ≡ Control (Running stack)
  pub named : stack.top.task ≡ task
  pub numbered : stack.top.frame.ordinal ≡ frame
  pub has : IsSomeAnd (slice_get (slots_of program stack.top.frame.body) slot)
      (λ s. (s.source ≡ Own) × (s.cells ≡ cells))
