-- What a member finds that goes on from a barrier, and a task that goes on from a `taskwait` or a `taskgroup` (OpenMP API
-- 5.2, sections 15.3 to 15.5). Each member counts the
-- barriers that it has passed, which is its phase, and those that it has reached.
use Rattle.std.specs.Prelude.{◌≡◌, ℕ, ◌<◌, ℤ, pos, List}
use Rattle.om_foot.specs.declared.object.Obj.TheVariants as obj
use Rattle.om_state.specs.declared.control.Context.{Context}
use Rattle.om_state.specs.State.{State}
use Rattle.om_state.specs.Values.{count_in, number_in}

-- how many barriers the member of a team with this thread number has reached
abbrev pub reached_by : State → Context → (number : ℕ) → ℕ
reached_by s c number = number_in (s (obj.Arrived c.team.name number))

pub record FindsAllThere (s : State) (c : Context) : Type 0 where
  -- each member of the team has reached one barrier more at least than this one has passed
  pub reached : (number : ℕ) → number < c.team.size → c.phase < reached_by s c number
  -- and the count of unfinished tasks that were made since the one that it passed last is 0
  pub none_pending : count_in (s (obj.Pending c.team.name c.phase)) ≡ pos 0

-- what the machine counts as the unfinished children of a context's task
abbrev pub children_left : State → Context → ℤ
children_left s c = count_in (s (obj.Kids c.task))

-- and as the unfinished tasks of a task group
abbrev pub tasks_left : State → (group : List ℕ) → ℤ
tasks_left s group = count_in (s (obj.Group group))
