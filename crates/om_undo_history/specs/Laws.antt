-- What is true of steps under any rules: they depend on their footprints, and commute and can be taken out where
-- these don't conflict.
use Rattle.std.specs.Prelude.{◌≡◌, Bool, true, false, cond, ℤ, pos, ◌+ℤ◌, neg_ℤ, Option, None, Some, List, [], ◌∷◌}
use Rattle.std.specs.Prelude.{◌++◌}
use Rattle.om_foot.specs.declared.object.Obj.{Obj}
use Rattle.om_foot.specs.declared.footprint.Mode.{Mode}
use Rattle.om_foot.specs.declared.footprint.Mode.TheVariants as mode
use Rattle.om_foot.specs.declared.footprint.Access.{Access}
use Rattle.om_foot.specs.Footprint.{obj_eq, conflict_of}
use Rattle.om_state.specs.declared.value.Val.{Val}
use Rattle.om_state.specs.declared.step.Update.{Update}
use Rattle.om_state.specs.declared.step.Update.TheVariants as update
use Rattle.om_state.specs.declared.step.Outcome.{Outcome}
use Rattle.om_state.specs.declared.step.Outcome.TheVariants as outcome
use Rattle.om_state.specs.declared.step.Label.{Label}
use Rattle.om_state.specs.declared.step.Step.{Step}
use Rattle.om_state.specs.Values.{value_plus}
use Rattle.om_state.specs.State.{State}
use Rattle.om_state.specs.Rules.{Rules, step_at, next_state, replay, replay_from}

-- P is asked at the modes Read and Write, and nothing at Add
abbrev pub IfRead : Mode → Type 0 → Type 0
IfRead mode.Add P = Unit {0}
IfRead mode.Read P = P
IfRead mode.Write P = P

-- two states hold the same at the Read and Write objects of a footprint
abbrev pub AgreeAt : List Access → State → State → Type 0
AgreeAt [] s t = Unit {0}
AgreeAt (a ∷ rest) s t = IfRead a.mode (s a.object ≡ t a.object) × AgreeAt rest s t

-- a step depends on its footprint alone: where two states agree at the objects that it reads, it is the same
abbrev pub Dependence : Type 0
Dependence = (r : Rules) (s t : State) (l : Label) → AgreeAt (step_at r s l).footprint s t
    → step_at r s l ≡ step_at r t l

-- two footprints don't conflict
abbrev pub Apart : List Access → List Access → Type 0
Apart first others = conflict_of first others ≡ None

-- a before b, exchanged: b can be made first and a then, both are the same steps, and they end at the same state
pub record Exchanged (r : Rules) (s : State) (a b : Label) (s1 s2 : State) : Type 0 where
  pub mid : State
  pub b_first : next_state r s b ≡ Some mid
  pub a_then : next_state r mid a ≡ Some s2
  pub b_same : step_at r s b ≡ step_at r s1 b
  pub a_same : step_at r mid a ≡ step_at r s a

-- two steps that don't conflict can be exchanged
abbrev pub Commutation : Type 0
Commutation = (r : Rules) (s s1 s2 : State) (a b : Label) → next_state r s a ≡ Some s1 → next_state r s1 b ≡ Some s2
    → Apart (step_at r s a).footprint (step_at r s1 b).footprint → Exchanged r s a b s1 s2

-- the steps of a list, each at its place, up to the first that can't be made
abbrev pub steps_then : Option State → (State → List Step) → List Step
steps_then None f = []
steps_then (Some s) f = f s

abbrev pub steps_from : Rules → State → List Label → List Step
steps_from r s [] = []
steps_from r s (l ∷ ls) = step_at r s l ∷ steps_then (next_state r s l) (λ t. steps_from r t ls)

-- a footprint conflicts with none of these steps
abbrev pub ApartFromAll : List Access → List Step → Type 0
ApartFromAll footprint [] = Unit {0}
ApartFromAll footprint (d ∷ ds) = Apart footprint d.footprint × ApartFromAll footprint ds

-- whether an update puts a value or appends to one, and what it adds
abbrev pub writes : Mode → Update → Bool
writes mode.Write (update.Put v) = true
writes mode.Write (update.Append t) = true
writes _ _ = false

abbrev pub adds : Mode → Update → ℤ
adds mode.Add (update.Add d) = d
adds _ _ = pos 0

-- whether the updates of a footprint put a value at an object, or append to it
abbrev pub is_written : List Access → List Update → Obj → Bool
is_written (a ∷ rest) (u ∷ us) q = cond (obj_eq a.object q) (cond (writes a.mode u) true (is_written rest us q))
    (is_written rest us q)
is_written _ _ q = false

-- the sum of what the updates of a footprint add at an object
abbrev pub sum_added : List Access → List Update → Obj → ℤ
sum_added (a ∷ rest) (u ∷ us) q = cond (obj_eq a.object q) (adds a.mode u +ℤ sum_added rest us q)
    (sum_added rest us q)
sum_added _ _ q = pos 0

abbrev pub updates_of : Outcome → List Update
updates_of (outcome.Updates us) = us
updates_of (outcome.Blocked b) = []
updates_of outcome.Ended = []

-- what an object holds once a step is taken out: where the step put or appended, the value before it; where it added,
-- that much less than now; elsewhere, as it is now
abbrev pub value_without : Step → State → State → Obj → Val
value_without d before now q = cond (is_written d.footprint (updates_of d.outcome) q) (before q)
    (value_plus (neg_ℤ (sum_added d.footprint (updates_of d.outcome) q)) (now q))

-- a step l from `before` to s1, taken out from in front of the steps ls, which lead from s1 to `now`
pub record TakenOut (r : Rules) (before : State) (l : Label) (s1 : State) (ls : List Label)
    (now : State) : Type 0 where
  pub after : State
  pub replayed : replay_from r before ls ≡ Some after
  pub same_steps : steps_from r before ls ≡ steps_from r s1 ls
  pub each_object : (q : Obj) → after q ≡ value_without (step_at r before l) before now q

-- a step with which no later one conflicts can be taken out of a replay
abbrev pub Removal : Type 0
Removal = (r : Rules) (earlier later : List Label) (l : Label) (before s1 now : State)
    → replay r earlier ≡ Some before → next_state r before l ≡ Some s1 → replay_from r s1 later ≡ Some now
    → ApartFromAll (step_at r before l).footprint (steps_from r s1 later)
    → TakenOut r before l s1 later now × (replay r (earlier ++ later) ≡ replay_from r before later)
