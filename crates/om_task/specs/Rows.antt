-- The rows of tasks and task groups.
use Rattle.std.specs.Prelude.{ℕ, ℤ, pos, negsuc, Bool, true, false, if◌then◌else◌, nat_eq, Option, None, Some, List, []}
use Rattle.std.specs.Prelude.{◌∷◌, ◌++◌}
use Rattle.std.specs.Cmp.Lexicographic.{pointwise}
use Rattle.om_foot.specs.Names.{above}
use Rattle.om_foot.specs.declared.object.Obj.TheVariants as obj
use Rattle.om_foot.specs.declared.footprint.Access.{Access}
use Rattle.om_code.specs.declared.frame.Fault.TheVariants as fault
use Rattle.om_code.specs.declared.raw.Body.{Body}
use Rattle.om_code.specs.declared.raw.Slot.{Slot}
use Rattle.om_code.specs.Printing.{ints_on}
use Rattle.om_events.specs.declared.event.Record.{Record}
use Rattle.om_events.specs.declared.event.Record.TheVariants as event_record
use Rattle.om_events.specs.declared.kind.Endpoint as endpoints
use Rattle.om_events.specs.declared.kind.Endpoint.TheVariants as endpoint
use Rattle.om_events.specs.declared.kind.Sync as syncs
use Rattle.om_events.specs.declared.kind.Sync.TheVariants as sync
use Rattle.om_events.specs.declared.kind.TaskStatus as statuses
use Rattle.om_events.specs.declared.kind.TaskStatus.TheVariants as status
use Rattle.om_state.specs.declared.control.Context.{Context}
use Rattle.om_state.specs.declared.control.Construct.TheVariants as construct
use Rattle.om_state.specs.declared.control.Kind.{Kind}
use Rattle.om_state.specs.declared.control.Kind.TheVariants as kind
use Rattle.om_state.specs.declared.control.Stack.{Stack}
use Rattle.om_state.specs.declared.control.Edit.TheVariants.{Go, BeginContext, EndContext, Open, Close, CountBirth}
use Rattle.om_state.specs.declared.step.Blocked.TheVariants as blocked
use Rattle.om_state.specs.declared.step.Update.{Update}
use Rattle.om_state.specs.declared.step.Update.TheVariants.{Put, Keep}
use Rattle.om_state.specs.declared.value.Ready.{Ready}
use Rattle.om_state.specs.declared.value.Task as tasks
use Rattle.om_state.specs.declared.value.Task.TheVariants as task
use Rattle.om_state.specs.declared.value.Val.TheVariants as value
use Rattle.om_state.specs.Values.{task_in, count_in}
use Rattle.om_team_serial.specs.declared.row.Row.{Row}
use Rattle.om_team_serial.specs.declared.row.Row.TheVariants.{Goes, Faults, Blocked, Lacks}
use Rattle.om_team_serial.specs.Rows.{Asked, decided, goes, first_of, is_zero}
use Rattle.om_team_serial.specs.Objects.{read, write, events, event, given_cells, own_cells, puts, deaths, innermost}
use Rattle.om_task.specs.declared.task.Making.{Making}
use Rattle.om_task.specs.declared.task_start.Starting.{Starting}
use Rattle.om_task.specs.Tasks.{born, group_of, innermost_group, counts, additions, ready_of, task_context}

-- OpenMP 5.2, 12.5: a task of this name is made, with its firstprivate values
abbrev pub made_names : ℕ → Body → Context → List ℕ → List Access
made_names worker body c new = write (obj.Task new)
    ∷ (given_cells new 0 body.given ++ (counts c.task c (group_of c) ++ events worker ∷ []))

-- the values go to the cells, the counts have one more, and the event is recorded
abbrev pub values_given : Context → List ℕ → List ℤ → List Update
values_given c new ns = puts ns ++ (additions (pos 1) (group_of c) ++ event (event_record.TaskCreate c.task new) ∷ [])

abbrev pub made_updates : Making → Body → Context → List ℕ → List ℤ → List Update
made_updates m body c new ns = Put (value.Task (task.Ready (ready_of m body c))) ∷ values_given c new ns

abbrev pub made_row : Making → Body → Context → List ℤ → Option (List ℕ) → Asked
made_row m body c ns None = decided (Faults fault.Name)
made_row m body c ns (Some new) = record {
  names = made_names m.worker body c new;
  row = λ _. Goes (Go m.launch.to m.launch.takes None ∷ CountBirth ∷ []) (made_updates m body c new ns);
}

abbrev pub given_row : Making → Body → Context → Option (List ℤ) → Asked
given_row m body c None = decided Lacks
given_row m body c (Some ns) = made_row m body c ns (born c)

-- the values are the operands that are taken
abbrev pub spawn_row : Making → Body → Context → Asked
spawn_row m body c = given_row m body c (ints_on m.launch.takes c.frame.operands)

-- an explicit task ends: its frame's cells end, and the context of the next task runs on
abbrev pub ended_names : ℕ → Context → List Access → List ℕ → List Access
ended_names worker c own parent = write (obj.Task c.task) ∷ (own ++ (counts parent c c.group ++ events worker ∷ []))

abbrev pub ended_updates : Context → List Access → List ℕ → List Update
ended_updates c own next = Put (value.Task task.Done)
    ∷ (deaths own ++ (additions (negsuc 0) c.group ++ event (event_record.TaskSchedule c.task status.Complete next)
    ∷ []))

abbrev pub ended_row : ℕ → Context → List Context → List Access → Asked
ended_row worker c [] own = decided Lacks
ended_row worker c (next ∷ below) own = record {
  names = ended_names worker c own (above c.task);
  row = λ _. Goes (EndContext ∷ []) (ended_updates c own next.task);
}

-- only an explicit task has such an end
abbrev pub end_row_of : ℕ → Stack → List Slot → Kind → Asked
end_row_of worker stack slots kind.Initial = decided Lacks
end_row_of worker stack slots kind.Implicit = decided Lacks
end_row_of worker stack slots kind.Explicit = ended_row worker stack.top stack.below (own_cells stack.top slots)

abbrev pub task_end_row : ℕ → Stack → List Slot → Asked
task_end_row worker stack slots = end_row_of worker stack slots stack.top.kind

-- what a context's task records where it begins and ends to wait
abbrev pub sync_event : syncs.Sync → endpoints.Endpoint → Context → Record
sync_event s e c = event_record.SyncRegion s e c.team.name c.task

-- OpenMP 5.2, 15.5: a task waits for its children
abbrev pub wait_begin_row : ℕ → ℕ → Context → Asked
wait_begin_row worker to c = record {
  names = events worker ∷ [];
  row = λ _. goes to 0 None
      (event (sync_event sync.TaskWait endpoint.Begin c) ∷ []);
}

abbrev pub waited : ℕ → Context → Bool → Row
waited to c true = goes to 0 None (Keep ∷ event (sync_event sync.TaskWait endpoint.End c) ∷ [])
waited to c false = Blocked blocked.Children

abbrev pub wait_end_row : ℕ → ℕ → Context → Asked
wait_end_row worker to c = record {
  names = read (obj.Kids c.task) ∷ events worker ∷ [];
  row = λ values. waited to c
      (is_zero (count_in (first_of values)));
}

-- OpenMP 5.2, 12.7: a task goes on, and might have started another one
abbrev pub task_yield_row : ℕ → Asked
task_yield_row to = decided (goes to 0 None [])

-- OpenMP 5.2, 15.4: a task waits for the tasks of a group and their descendants. The group of this name opens
abbrev pub opened_row : ℕ → ℕ → Context → Option (List ℕ) → Asked
opened_row worker to c None = decided (Faults fault.Name)
opened_row worker to c (Some group) = record {
  names = events worker ∷ [];
  row = λ _. Goes (Go to 0 None ∷ CountBirth ∷ Open (construct.Group group) ∷ [])
      (event (sync_event sync.TaskGroup endpoint.Begin c) ∷ []);
}

abbrev pub group_begin_row : ℕ → ℕ → Context → Asked
group_begin_row worker to c = opened_row worker to c (born c)

-- the group closes once it has no unfinished task
abbrev pub closed : ℕ → Context → Bool → Row
closed to c true = Goes (Go to 0 None ∷ Close ∷ []) (Keep ∷ event (sync_event sync.TaskGroup endpoint.End c) ∷ [])
closed to c false = Blocked blocked.Group

abbrev pub closed_row : ℕ → ℕ → Context → Option (List ℕ) → Asked
closed_row worker to c None = decided Lacks
closed_row worker to c (Some group) = record {
  names = read (obj.Group group) ∷ events worker ∷ [];
  row = λ values.
      closed to c (is_zero (count_in (first_of values)));
}

abbrev pub group_end_row : ℕ → ℕ → Context → Asked
group_end_row worker to c = closed_row worker to c (innermost_group (innermost c.constructs))

-- what a task waits with, where it is ready and of this team
abbrev pub ready_for : List ℕ → tasks.Task → Option Ready
ready_for team (task.Ready ready) = if pointwise nat_eq ready.team team then Some ready else None
ready_for team _ = None

abbrev pub begun_updates : ℕ → List ℕ → statuses.TaskStatus → List ℕ → List Update
begun_updates worker prior s name = Put (value.Task (task.Running worker))
    ∷ event (event_record.TaskSchedule prior s name) ∷ []

abbrev pub started : ℕ → List ℕ → Context → statuses.TaskStatus → Option Ready → Row
started worker name c s None = Blocked blocked.Task
started worker name c s (Some ready) = Goes (BeginContext (task_context name c ready) ∷ [])
    (begun_updates worker c.task s name)

abbrev pub started_row : ℕ → List ℕ → Context → Bool → Option statuses.TaskStatus → Asked
started_row worker name c admits None = decided (Blocked blocked.Place)
started_row worker name c false (Some s) = decided (Blocked blocked.Task)
started_row worker name c true (Some s) = record {
  names = write (obj.Task name) ∷ events worker ∷ [];
  row = λ values. started worker name c s (ready_for c.team.name (task_in (first_of values)));
}

-- OpenMP 5.2, 12.9: the task of a name is started on a context, at a scheduling point
abbrev pub start_row : Starting → List ℕ → Context → Asked
start_row s name c = started_row s.worker name c s.admits s.status
