-- What of a worksharing region is given out, and which worker has it in hand (OpenMP API 5.2, chapter 11). Each member
-- of a team numbers the regions that it meets from 0.
use Rattle.std.specs.Prelude.{◌≡◌, ◌⊎◌, ℕ, ◌+◌, ◌≤◌, ◌<◌, Bool, true, false, ◌&&◌, nat_eq, nat_le, nat_lt, if◌then◌else◌}
use Rattle.std.specs.Prelude.{Some, List, [], ◌∷◌, drop}
use Rattle.std.specs.Cmp.Lexicographic.{pointwise}
use Rattle.om_foot.specs.declared.object.Obj.TheVariants as obj
use Rattle.om_code.specs.declared.instruction.Schedule.{Schedule}
use Rattle.om_code.specs.declared.instruction.Schedule.TheVariants as schedule
use Rattle.om_code.specs.declared.raw.Raw.{Raw}
use Rattle.om_state.specs.declared.control.Construct.{Construct}
use Rattle.om_state.specs.declared.control.Construct.TheVariants as construct
use Rattle.om_state.specs.declared.control.Context.{Context}
use Rattle.om_state.specs.declared.control.Control.TheVariants.{Running}
use Rattle.om_state.specs.declared.control.Share.{Share}
use Rattle.om_state.specs.declared.control.Stack.{Stack}
use Rattle.om_state.specs.declared.step.Label.{Label}
use Rattle.om_state.specs.declared.value.Val.TheVariants as value
use Rattle.om_state.specs.Rules.{next_state}
use Rattle.om_state.specs.State.{State}
use Rattle.om_state.specs.Values.{number_in}
use Rattle.om_task.specs.Rules.{rules_of}
use Rattle.om_team_laws.specs.Contexts.{contexts_at, tally}

-- how many iterations or sections of a team's region are given out; of a `single` region, 1 once a member runs it
abbrev pub given_out : State → (team : List ℕ) → (region : ℕ) → ℕ
given_out s team region = number_in (s (obj.Work team region))

-- ---- `single` (section 11.1)

-- The step of a member, from s to t, opens a `single` region, which is the one of this number for it: to run the region,
-- or to pass it by.
pub record OpensSingle (runs : Bool) (program : Raw) (workers : ℕ) (s t : State) (l : Label) (team : List ℕ)
    (region : ℕ) : Type 0 where
  pub stack : Stack
  pub running : s (obj.Control l.worker) ≡ value.Control (Running stack)
  pub of_team : stack.top.team.name ≡ team
  pub of_region : stack.top.regions ≡ region
  pub made : next_state (rules_of program workers) s l ≡ Some t
  pub context : Context
  pub same_below : contexts_at t l.worker ≡ context ∷ stack.below
  pub opened : context.constructs ≡ construct.Single runs ∷ stack.top.constructs

-- ---- sections, and loops with a dynamic schedule (sections 11.3 and 11.5.3)

abbrev pub is_dynamic : Schedule → Bool
is_dynamic schedule.Static = false
is_dynamic (schedule.StaticChunk size) = false
is_dynamic (schedule.Dynamic size) = true

-- an iteration or a section of the region of this number is in the chunk; an iteration of a loop leaves it as it begins
abbrev pub has_iteration : (region iteration : ℕ) → Share → Bool
has_iteration region iteration share = is_dynamic share.schedule
    && (nat_eq share.region region && (nat_le share.next iteration && nat_lt iteration share.end))

abbrev pub hand : (region iteration : ℕ) → Construct → ℕ
hand region iteration (construct.Share share) = if has_iteration region iteration share then 1 else 0
hand region iteration (construct.Single runs) = 0
hand region iteration construct.Masked = 0
hand region iteration (construct.Critical lock) = 0
hand region iteration (construct.Group name) = 0

-- how many of these regions have it in their chunk
abbrev pub hands : (region iteration : ℕ) → List Construct → ℕ
hands region iteration [] = 0
hands region iteration (x ∷ constructs) = hand region iteration x + hands region iteration constructs

abbrev pub hands_of : (team : List ℕ) → (region iteration : ℕ) → Context → ℕ
hands_of team region iteration c = if pointwise nat_eq c.team.name team then hands region iteration c.constructs else 0

-- how many chunks of a worker have an iteration of a team's region
abbrev pub in_hand : State → (team : List ℕ) → (region iteration worker : ℕ) → ℕ
in_hand s team region iteration worker = tally (hands_of team region iteration) (contexts_at s worker)

-- a worker has it
abbrev pub IsInHand : State → (team : List ℕ) → (region iteration worker : ℕ) → Type 0
IsInHand s team region iteration worker = 1 ≤ in_hand s team region iteration worker

pub record IsSharedOut (s : State) : Type 0 where
  -- an iteration is in one chunk of a worker at most
  pub once : (team : List ℕ) (region iteration worker : ℕ) → in_hand s team region iteration worker ≤ 1
  -- and one worker at most has it
  pub one : (team : List ℕ) (region iteration v w : ℕ) → IsInHand s team region iteration v
      → IsInHand s team region iteration w → v ≡ w
  -- what a worker has is given out
  pub given : (team : List ℕ) (region iteration worker : ℕ) → IsInHand s team region iteration worker
      → iteration < given_out s team region

-- a step, from s to t, gives it to a worker, which did not have it
pub record Gives (s t : State) (team : List ℕ) (region iteration worker : ℕ) : Type 0 where
  pub before : in_hand s team region iteration worker ≡ 0
  pub after : IsInHand t team region iteration worker

-- a step, from s to t, begins an iteration of a loop, the next one of the worker's chunk
pub record Begins (s t : State) (team : List ℕ) (region iteration worker : ℕ) : Type 0 where
  pub stack : Stack
  pub running : s (obj.Control worker) ≡ value.Control (Running stack)
  pub of_team : stack.top.team.name ≡ team
  pub share : Share
  pub innermost : stack.top.constructs ≡ construct.Share share ∷ drop 1 stack.top.constructs
  pub is_it : share.next ≡ iteration
  pub in_chunk : has_iteration region iteration share ≡ true
  pub context : Context
  pub same_team : context.team ≡ stack.top.team
  pub same_below : contexts_at t worker ≡ context ∷ stack.below
  pub counted : context.constructs
      ≡ construct.Share (record share { next = share.next + 1 }) ∷ drop 1 stack.top.constructs

-- a step takes a part of a region: it opens a `single` region to run it, or its worker is given an iteration or a section
abbrev pub Takes : Raw → (workers : ℕ) → (s t : State) → Label → (team : List ℕ) → (region : ℕ) → Type 0
Takes program workers s t l team region = OpensSingle true program workers s t l team region
    ⊎ ((iteration : ℕ) × Gives s t team region iteration l.worker)

-- one of these steps from a state does
abbrev pub HasTaken : Raw → (workers : ℕ) → State → List Label → (team : List ℕ) → (region : ℕ) → Type 0
HasTaken program workers s [] team region = ⊥
HasTaken program workers s (l ∷ ls) team region = (t : State) × (next_state (rules_of program workers) s l ≡ Some t)
    × (Takes program workers s t l team region ⊎ HasTaken program workers t ls team region)
