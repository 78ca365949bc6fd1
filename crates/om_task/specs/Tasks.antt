-- Explicit tasks: their names, what they wait and begin with, and the counts in which they stand (OpenMP 5.2, 12.5).
use Rattle.std.specs.Prelude.{ℕ, ◌+◌, ℤ, Option, None, Some, List, [], ◌∷◌, ◌++◌}
use Rattle.om_foot.specs.Names.{name_of}
use Rattle.om_foot.specs.declared.object.Obj.TheVariants as obj
use Rattle.om_foot.specs.declared.footprint.Access.{Access}
use Rattle.om_code.specs.declared.raw.Body.{Body}
use Rattle.om_state.specs.declared.control.Context.{Context}
use Rattle.om_state.specs.declared.control.Construct.{Construct}
use Rattle.om_state.specs.declared.control.Kind.TheVariants as kind
use Rattle.om_state.specs.declared.step.Update.{Update}
use Rattle.om_state.specs.declared.step.Update.TheVariants.{Add}
use Rattle.om_state.specs.declared.value.Ready.{Ready}
use Rattle.om_team_serial.specs.Objects.{add, homes_in, group_name, group_in}
use Rattle.om_team_serial.specs.Begins.{first_frame, new_context}
use Rattle.om_task.specs.declared.task.Making.{Making}

-- the name of what is born next of a context's task, unless it has more than 64 numbers
abbrev pub born : Context → Option (List ℕ)
born c = name_of (c.task ++ (c.births + 1) ∷ [])

-- the innermost task group of a context
abbrev pub group_of : Context → Option (List ℕ)
group_of c = group_in c.constructs c.group

-- the task group that an innermost region is, if there is one and it is one
abbrev pub innermost_group : Option Construct → Option (List ℕ)
innermost_group None = None
innermost_group (Some region) = group_name region

-- the count of a task group, where there is a group
abbrev pub group_count : Option (List ℕ) → List Access
group_count None = []
group_count (Some group) = add (obj.Group group) ∷ []

-- the counts in which a context's phase has a task of this parent and group
abbrev pub counts : List ℕ → Context → Option (List ℕ) → List Access
counts parent c group = add (obj.Kids parent) ∷ add (obj.Pending c.team.name c.phase) ∷ group_count group

-- a number that is added to the count of a task group, where there is a group
abbrev pub group_addition : ℤ → Option (List ℕ) → List Update
group_addition d None = []
group_addition d (Some group) = Add d ∷ []

-- a number that is added to each of these counts
abbrev pub additions : ℤ → Option (List ℕ) → List Update
additions d group = Add d ∷ Add d ∷ group_addition d group

-- what a task that is made waits with
abbrev pub ready_of : Making → Body → Context → Ready
ready_of m body c = record {
  body = m.launch.body;
  line = m.line;
  homes = homes_in c body.slots;
  team = c.team.name;
  phase = c.phase;
  group = group_of c;
}

-- the context of a task that is started on another context: its place in the team is that of the context below
abbrev pub task_context : List ℕ → Context → Ready → Context
task_context name c ready = new_context kind.Explicit ready.phase name c.team ready.group
    (first_frame ready.body ready.homes)
