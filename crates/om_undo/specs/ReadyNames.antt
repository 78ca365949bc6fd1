-- The names of the tasks that are ready, as a list that is computed from the steps of a run.
use Rattle.std.specs.Prelude.{ℕ, cond, List, [], ◌∷◌, map}
use Rattle.std.specs.Ordering.{nat_cmp}
use Rattle.std.specs.Cmp.Lexicographic.{slice_cmp}
use Rattle.std.specs.declared.cmp.Ordering.{Ordering}
use Rattle.std.specs.declared.cmp.Ordering.TheVariants.{Less, Equal, Greater}
use Rattle.om_foot.specs.declared.object.Obj.{Obj}
use Rattle.om_foot.specs.declared.object.Obj.TheVariants as object
use Rattle.om_foot.specs.declared.footprint.Access.{Access}
use Rattle.om_state.specs.declared.step.Step.{Step}
use Rattle.om_state.specs.Ready.{is_ready}
use Rattle.om_state.specs.State.{State}
use Rattle.om_state.specs.Values.{task_in}
use Rattle.om_undo_history.specs.Laws.{steps_from}
use Rattle.om_undo_history.specs.Runs.{label_of}
use Rattle.om_undo.specs.Machines.{MachineView, rules_for, state_in}

-- the name of an object that is a task, in front of others
abbrev pub with_task : Obj → List (List ℕ) → List (List ℕ)
with_task (object.Task name) names = name ∷ names
with_task _ names = names

-- the tasks that a footprint touches, in front of others
abbrev pub tasks_in : List Access → List (List ℕ) → List (List ℕ)
tasks_in [] names = names
tasks_in (a ∷ rest) names = with_task a.object (tasks_in rest names)

-- the tasks that steps touch
abbrev pub tasks_of : List Step → List (List ℕ)
tasks_of [] = []
tasks_of (d ∷ ds) = tasks_in d.footprint (tasks_of ds)

-- where a name goes in a list that ascends: nowhere where it is there
abbrev pub placed : Ordering → List ℕ → List ℕ → List (List ℕ) → List (List ℕ) → List (List ℕ)
placed Less name other names further = name ∷ other ∷ names
placed Equal name other names further = other ∷ names
placed Greater name other names further = other ∷ further

-- a name put into a list that ascends; one that is there already is not put again
abbrev pub inserted : List ℕ → List (List ℕ) → List (List ℕ)
inserted name [] = name ∷ []
inserted name (other ∷ names) = placed (slice_cmp nat_cmp name other) name other names (inserted name names)

-- those of the names that are ready, ascending
abbrev pub ready_among : State → List (List ℕ) → List (List ℕ)
ready_among s [] = []
ready_among s (name ∷ names) = cond (is_ready (task_in (s (object.Task name))))
    (inserted name (ready_among s names)) (ready_among s names)

-- the names of all tasks that are ready, ascending: no step makes a task ready that it doesn't touch
unfoldable pub ready_names : MachineView → List (List ℕ)
ready_names m = ready_among (state_in m)
    (tasks_of (steps_from (rules_for m) (rules_for m).start (map label_of m.history.entries)))
