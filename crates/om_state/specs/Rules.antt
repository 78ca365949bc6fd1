-- Steps by the rules of a program, and replay.
use Rattle.std.specs.Prelude.{ℕ, Option, None, Some, List, [], ◌∷◌}
use Rattle.om_foot.specs.declared.object.Obj.TheVariants as obj
use Rattle.om_foot.specs.declared.footprint.Mode.TheVariants as mode
use Rattle.om_foot.specs.declared.footprint.Access.{Access}
use Rattle.om_state.specs.declared.value.Val.{Val}
use Rattle.om_state.specs.declared.step.Label.{Label}
use Rattle.om_state.specs.declared.step.Outcome.{Outcome}
use Rattle.om_state.specs.declared.step.Outcome.TheVariants as outcome
use Rattle.om_state.specs.declared.step.Step.{Step}
use Rattle.om_state.specs.State.{State, updated, values_read}

-- The rules of a program: the state in which it starts; what a step touches besides its worker's
-- control, by that control alone; what comes of it, by the values that it reads alone; and its line.
pub record Rules : Type 0 where
  pub start : State
  pub further : Label → Val → List Access
  pub outcome : Label → List Val → Outcome
  pub line : Label → Val → ℕ

-- the first access of each step: its worker's control, which it may change
abbrev pub control_access : Label → Access
control_access l = record { object = obj.Control l.worker; mode = mode.Write }

-- the footprint of a step at a state
abbrev pub footprint_at : Rules → State → Label → List Access
footprint_at r s l = control_access l ∷ r.further l (s (obj.Control l.worker))

-- a step at a state: what it touches, what comes of it, and its line
unfoldable pub step_at : Rules → State → Label → Step
step_at r s l = record {
  footprint = footprint_at r s l;
  outcome = r.outcome l (values_read (footprint_at r s l) s);
  line = r.line l (s (obj.Control l.worker));
}

-- the state after an outcome, where it is updates
abbrev pub state_after_outcome : List Access → Outcome → State → Option State
state_after_outcome accesses (outcome.Updates us) s = Some (updated accesses us s)
state_after_outcome accesses (outcome.Blocked b) s = None
state_after_outcome accesses outcome.Ended s = None

-- the state after a step, where it can be made
abbrev pub next_state : Rules → State → Label → Option State
next_state r s l = state_after_outcome (step_at r s l).footprint (step_at r s l).outcome s

-- from a state, where there is one
abbrev pub and_then : Option State → (State → Option State) → Option State
and_then None f = None
and_then (Some s) f = f s

-- the state after a list of steps from a state, where each can be made in its turn
abbrev pub replay_from : Rules → State → List Label → Option State
replay_from r s [] = Some s
replay_from r s (l ∷ ls) = and_then (next_state r s l) (λ t. replay_from r t ls)

-- the state after a list of steps from the start
abbrev pub replay : Rules → List Label → Option State
replay r ls = replay_from r r.start ls
