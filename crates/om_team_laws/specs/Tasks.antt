-- How explicit tasks go on (OpenMP API 5.2, sections 12.5 and 12.9).
use Rattle.std.specs.Prelude.{◌≡◌, ◌⊎◌, ℕ, ◌<◌, List, [], ◌∷◌, ◌++◌}
use Rattle.om_foot.specs.declared.object.Obj.TheVariants as obj
use Rattle.om_state.specs.declared.control.Context.{Context}
use Rattle.om_state.specs.declared.control.Kind.TheVariants as kind
use Rattle.om_state.specs.declared.value.Ready.{Ready}
use Rattle.om_state.specs.declared.value.Task as tasks
use Rattle.om_state.specs.declared.value.Task.TheVariants as task
use Rattle.om_state.specs.State.{State}
use Rattle.om_state.specs.Values.{task_in}
use Rattle.om_team_laws.specs.Contexts.{contexts_at}

-- the task of a name, at a state
abbrev pub task_at : State → List ℕ → tasks.Task
task_at s name = task_in (s (obj.Task name))

-- ---- how a task goes on in a step

-- it is made
abbrev pub IsMade : tasks.Task → tasks.Task → Type 0
IsMade before after = (ready : Ready) × (before ≡ task.Absent) × (after ≡ task.Ready ready)

-- a worker begins it
abbrev pub IsBegun : (worker : ℕ) → tasks.Task → tasks.Task → Type 0
IsBegun worker before after = (ready : Ready) × (before ≡ task.Ready ready) × (after ≡ task.Running worker)

-- the worker that began it ends it: a task is tied to its thread (section 12.1)
abbrev pub IsEnded : (worker : ℕ) → tasks.Task → tasks.Task → Type 0
IsEnded worker before after = (before ≡ task.Running worker) × (after ≡ task.Done)

abbrev pub GoesOn : (worker : ℕ) → tasks.Task → tasks.Task → Type 0
GoesOn worker before after = (after ≡ before)
    ⊎ (IsMade before after ⊎ (IsBegun worker before after ⊎ IsEnded worker before after))

-- ---- names of tasks and contexts

-- a name is another one, or stands below it
abbrev pub StartsWith : (name front : List ℕ) → Type 0
StartsWith name front = (rest : List ℕ) × (name ≡ front ++ rest)

-- one of these contexts
abbrev pub Has : List Context → Context → Type 0
Has [] c = ⊥
Has (d ∷ contexts) c = (d ≡ c) ⊎ Has contexts c

-- contexts of different tasks
abbrev pub AreDistinct : List Context → Type 0
AreDistinct [] = Unit {0}
AreDistinct (c ∷ contexts) = ((d : Context) → Has contexts d → d.task ≡ c.task → ⊥) × AreDistinct contexts

-- What is born of a context's task, as a task or a team, has the task's name with the next number behind it. So names
-- are new:
pub record IsOrderly (s : State) : Type 0 where
  -- no context has a name that is still to come, and no task was made under one
  pub unborn : (v w : ℕ) (c d : Context) (number : ℕ) → Has (contexts_at s v) c → Has (contexts_at s w) d
      → c.births < number → StartsWith d.task (c.task ++ number ∷ []) → ⊥
  pub unmade : (w : ℕ) (c : Context) (number : ℕ) (name : List ℕ) → Has (contexts_at s w) c → c.births < number
      → StartsWith name (c.task ++ number ∷ []) → task_at s name ≡ task.Absent
  -- a task that waits to be begun has no context and no children
  pub waiting : (name : List ℕ) (ready : Ready) (w : ℕ) (d : Context) → task_at s name ≡ task.Ready ready
      → Has (contexts_at s w) d → StartsWith d.task name → ⊥
  pub childless : (name : List ℕ) (ready : Ready) (number : ℕ) (rest : List ℕ) → task_at s name ≡ task.Ready ready
      → task_at s (name ++ number ∷ rest) ≡ task.Absent
  -- a task has one context at most
  pub apart : (v w : ℕ) (c d : Context) → Has (contexts_at s v) c → Has (contexts_at s w) d → c.task ≡ d.task → v ≡ w
  pub distinct : (w : ℕ) → AreDistinct (contexts_at s w)
  -- an explicit task that has a context runs on its worker
  pub running : (w : ℕ) (c : Context) → Has (contexts_at s w) c → c.kind ≡ kind.Explicit
      → task_at s c.task ≡ task.Running w
