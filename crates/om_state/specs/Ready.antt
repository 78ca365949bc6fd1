-- The names of the tasks that are ready to be begun.
use Rattle.std.specs.Prelude.{◌≡◌, ◌↔◌, Bool, true, false, cond, ℕ, List, [], ◌∷◌, Option, None, Some, IfSome, Contains}
use Rattle.std.specs.Prelude.{slice_get}
use Rattle.std.specs.Ordering.{nat_cmp, is_eq, is_lt, is_le}
use Rattle.std.specs.Cmp.Lexicographic.{slice_cmp}
use Rattle.std.specs.List.Sorted.{IsStrictlySortedBy}
use Rattle.om_foot.specs.declared.object.Obj.TheVariants as obj
use Rattle.om_state.specs.declared.value.Task as tasks
use Rattle.om_state.specs.declared.value.Task.TheVariants as task
use Rattle.om_state.specs.State.{State}
use Rattle.om_state.specs.Values.{task_in}

abbrev pub is_ready : tasks.Task → Bool
is_ready (task.Ready ready) = true
is_ready task.Absent = false
is_ready (task.Running worker) = false
is_ready task.Done = false

-- whether the task of a name is ready at a state
abbrev pub is_ready_at : State → List ℕ → Bool
is_ready_at s name = is_ready (task_in (s (obj.Task name)))

-- a list of all names of a kind, ascending: there is one such list
pub record AreAll (is : List ℕ → Bool) (names : List (List ℕ)) : Type 0 where
  pub ascending : IsStrictlySortedBy (slice_cmp nat_cmp) names
  pub members : (name : List ℕ) → Contains names name ↔ is name ≡ true

-- the names of all tasks that are ready at a state
abbrev pub AreReady : State → List (List ℕ) → Type 0
AreReady s names = AreAll (is_ready_at s) names

-- whether a name is behind another one; every name is behind none
abbrev pub is_behind : Option (List ℕ) → List ℕ → Bool
is_behind None name = true
is_behind (Some other) name = is_lt (slice_cmp nat_cmp other name)

-- whether a name is another one, or behind it; no name is so for none
abbrev pub is_from : Option (List ℕ) → List ℕ → Bool
is_from None name = false
is_from (Some other) name = is_le (slice_cmp nat_cmp other name)

-- whether a name is another one
abbrev pub is_the : List ℕ → Option (List ℕ) → Bool
is_the name None = false
is_the name (Some other) = is_eq (slice_cmp nat_cmp name other)

-- the least name of a kind behind another one, if there is one
pub record IsNext (is : List ℕ → Bool) (after next : Option (List ℕ)) : Type 0 where
  pub found : IfSome next (λ name. (is_behind after name ≡ true) × (is name ≡ true))
  pub least : (name : List ℕ) → is_behind after name ≡ true → is name ≡ true → is_from next name ≡ true

-- those of the names that are behind another one
abbrev pub names_behind : Option (List ℕ) → List (List ℕ) → List (List ℕ)
names_behind after [] = []
names_behind after (name ∷ names) = cond (is_behind after name) (name ∷ names_behind after names)
    (names_behind after names)

-- the first of them
abbrev pub first_behind : Option (List ℕ) → List (List ℕ) → Option (List ℕ)
first_behind after names = slice_get (names_behind after names) 0
