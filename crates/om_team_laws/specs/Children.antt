-- Which children of a task are unfinished (OpenMP API 5.2, sections 12.5 and 15.5).
use Rattle.std.specs.Prelude.{◌≡◌, ◌⊎◌, ℕ, pos, Bool, true, false, List, [], ◌∷◌, length}
use Rattle.om_foot.specs.declared.object.Obj.TheVariants as obj
use Rattle.om_foot.specs.Names.{above}
use Rattle.om_state.specs.declared.value.Task as tasks
use Rattle.om_state.specs.declared.value.Task.TheVariants as task
use Rattle.om_state.specs.declared.value.Val.TheVariants as value
use Rattle.om_state.specs.State.{State}
use Rattle.om_team_laws.specs.Tasks.{task_at}

-- it was made, and has not ended; also where it met a fault
abbrev pub is_unfinished : tasks.Task → Bool
is_unfinished task.Absent = false
is_unfinished (task.Ready ready) = true
is_unfinished (task.Running worker) = true
is_unfinished task.Done = false

-- an unfinished task that a task made: its name is that of its maker with a number behind it
abbrev pub IsChild : State → (parent name : List ℕ) → Type 0
IsChild s parent name = (above name ≡ parent) × (is_unfinished (task_at s name) ≡ true)

-- ---- so many names

abbrev pub IsIn : List (List ℕ) → List ℕ → Type 0
IsIn [] name = ⊥
IsIn (n ∷ names) name = (n ≡ name) ⊎ IsIn names name

abbrev pub AreApart : List (List ℕ) → Type 0
AreApart [] = Unit {0}
AreApart (n ∷ names) = (IsIn names n → ⊥) × AreApart names

-- the unfinished children of a task, each once
pub record AreChildren (s : State) (parent : List ℕ) (names : List (List ℕ)) : Type 0 where
  pub each : (name : List ℕ) → IsIn names name → IsChild s parent name
  pub all : (name : List ℕ) → IsChild s parent name → IsIn names name
  pub once : AreApart names

-- the count of a task's children is how many of them are unfinished
abbrev pub HasChildren : State → Type 0
HasChildren s = (parent : List ℕ) → (names : List (List ℕ)) × AreChildren s parent names
    × (s (obj.Kids parent) ≡ value.Count (pos (length names)))
