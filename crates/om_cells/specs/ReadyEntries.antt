-- Which tasks are ready among kept values.
use Rattle.std.specs.Prelude.{Bool, Option, None, Some, option_to_list, unwrap_or, cond, ℕ, List, [], ◌∷◌, ◌++◌}
use Rattle.om_foot.specs.declared.part.Part.TheVariants as part
use Rattle.om_state.specs.declared.value.Val.{Val}
use Rattle.om_state.specs.declared.value.Val.TheVariants as value
use Rattle.om_state.specs.declared.value.Task.TheVariants as task
use Rattle.om_cells.specs.Named.{Named, value_of}
use Rattle.om_cells.specs.Places.{Places, value_at}
use Rattle.om_state.specs.Values.{task_in}
use Rattle.om_state.specs.Ready.{is_ready}

-- whether the task that is kept is ready
abbrev pub is_ready_task : Option Val → Bool
is_ready_task o = is_ready (task_in (unwrap_or o (value.Task task.Absent)))

-- whether that of a name is
abbrev pub is_ready_in : Named → List ℕ → Bool
is_ready_in es name = is_ready_task (value_of es name part.Task)

-- the name of a task that is ready
abbrev pub name_if_ready : List ℕ → Places → Option (List ℕ)
name_if_ready name ps = cond (is_ready_task (value_at ps part.Task)) (Some name) None

-- the names of the ready tasks among kept values, in their order
abbrev pub names_ready : Named → List (List ℕ)
names_ready [] = []
names_ready (e ∷ es) = option_to_list (name_if_ready e.0 e.1) ++ names_ready es
