-- The rows of worksharing, masked and critical regions, and of barriers.
use Rattle.std.specs.Prelude.{ℕ, ◌+◌, ℤ, pos, ◌&&◌, Bool, true, false, nat_lt, nat_eq, if◌then◌else◌, Option, None}
use Rattle.std.specs.Prelude.{zero, Some, List, [], ◌∷◌, ◌++◌, replicate, slice_get}
use Rattle.std.specs.Ordering.{int_eq}
use Rattle.om_foot.specs.declared.footprint.Access.{Access}
use Rattle.om_foot.specs.declared.object.Obj.TheVariants as obj
use Rattle.om_code.specs.declared.frame.Fault.TheVariants as fault
use Rattle.om_code.specs.declared.frame.Cell.TheVariants as cell
use Rattle.om_code.specs.declared.instruction.Barrier as barriers
use Rattle.om_code.specs.declared.instruction.Barrier.TheVariants as barrier_kind
use Rattle.om_code.specs.declared.instruction.LoopForm.{LoopForm}
use Rattle.om_code.specs.declared.instruction.Schedule.{Schedule}
use Rattle.om_code.specs.declared.instruction.Schedule.TheVariants as schedule
use Rattle.om_code.specs.declared.instruction.Place.TheVariants as place
use Rattle.om_code.specs.declared.raw.Slot.{Slot}
use Rattle.om_events.specs.declared.event.Record.{Record}
use Rattle.om_events.specs.declared.event.Record.TheVariants as event_record
use Rattle.om_events.specs.declared.kind.Endpoint.TheVariants as endpoint
use Rattle.om_events.specs.declared.kind.Sync as syncs
use Rattle.om_events.specs.declared.kind.Sync.TheVariants as sync
use Rattle.om_events.specs.declared.kind.TaskFlag.TheVariants as flag
use Rattle.om_events.specs.declared.kind.Work as works
use Rattle.om_events.specs.declared.kind.Work.TheVariants as work
use Rattle.om_state.specs.declared.control.Context.{Context}
use Rattle.om_state.specs.declared.control.Construct.{Construct}
use Rattle.om_state.specs.declared.control.Construct.TheVariants as construct
use Rattle.om_state.specs.declared.control.Kind.{Kind}
use Rattle.om_state.specs.declared.control.Kind.TheVariants as kind
use Rattle.om_state.specs.declared.control.Share.{Share}
use Rattle.om_state.specs.declared.control.Sharing as sharings
use Rattle.om_state.specs.declared.control.Sharing.TheVariants as sharing
use Rattle.om_state.specs.declared.control.Edit.{Edit}
use Rattle.om_state.specs.declared.control.Edit.TheVariants.{Go, EndContext, Open, Close, Replace, CountRegion, CountPhase}
use Rattle.om_state.specs.declared.step.Blocked.TheVariants as blocked
use Rattle.om_state.specs.declared.step.Tail.TheVariants.{Events}
use Rattle.om_state.specs.declared.step.Update.{Update}
use Rattle.om_state.specs.declared.step.Update.TheVariants.{Put, Keep, Append}
use Rattle.om_state.specs.declared.value.Val.TheVariants as value
use Rattle.om_state.specs.OpenShares.{is_loop, value_of}
use Rattle.om_state.specs.Values.{number_in, holder_in}
use Rattle.om_team_serial.specs.declared.row.Row.{Row}
use Rattle.om_team_serial.specs.declared.row.Row.TheVariants.{Goes, Faults, Blocked, Lacks}
use Rattle.om_team_serial.specs.Rows.{Asked, decided, goes, first_of}
use Rattle.om_team_serial.specs.Objects.{write, events, event, object_of, own_cells, deaths, innermost, is_misplaced}
use Rattle.om_team_worksharing.specs.declared.chunk.Chunk.{Chunk}
use Rattle.om_team_worksharing.specs.Barriers.{barrier, is_open}
use Rattle.om_team_worksharing.specs.Chunks.{step_size, count_of, static_chunk, chunk_within}

-- the edits that go to a place with so many operands taken, and then make one more
abbrev pub edits : ℕ → ℕ → Edit → List Edit
edits to takes edit = Go to takes None ∷ edit ∷ []

-- the edits that go to a place with so many operands taken, and open a worksharing region
abbrev pub begun : ℕ → ℕ → Construct → List Edit
begun to takes region = Go to takes None ∷ CountRegion ∷ Open region ∷ []

-- a row that names its worker's event records alone, and appends one
abbrev pub recorded : ℕ → List Edit → Record → Asked
recorded worker es entry = record { names = events worker ∷ []; row = λ _. Goes es (event entry ∷ []) }

-- the loop or the sections that a region is, if it is either
abbrev pub share_of : Construct → Option Share
share_of (construct.Share share) = Some share
share_of (construct.Single runs) = None
share_of construct.Masked = None
share_of (construct.Critical lock) = None
share_of (construct.Group name) = None

-- the same of the innermost region
abbrev pub share_within : Option Construct → Option Share
share_within (Some region) = share_of region
share_within None = None

abbrev pub share_in : Context → Option Share
share_in c = share_within (innermost c.constructs)

-- the kind of a worksharing region in its records
abbrev pub work_of : sharings.Sharing → works.Work
work_of sharing.Loop = work.Loop
work_of sharing.Sections = work.Sections

-- a loop or sections that a member opens: it has no chunk yet
abbrev pub opened : sharings.Sharing → ℕ → ℕ → ℤ → ℤ → Schedule → Share
opened s region n lower step sched = record {
  sharing = s;
  region = region;
  count = n;
  lower = lower;
  step = step;
  schedule = sched;
  taken = 0;
  next = 0;
  end = 0;
}

abbrev pub open_row : ℕ → ℕ → ℕ → Context → Share → Asked
open_row worker to takes c share =
    if is_misplaced c then decided (Faults fault.Nesting)
    else recorded worker (begun to takes (construct.Share share)) (event_record.Work (work_of share.sharing)
    endpoint.Begin c.team.name c.task share.count)

-- whether the chunks of a schedule have at least one iteration
abbrev pub is_right_schedule : Schedule → Bool
is_right_schedule schedule.Static = true
is_right_schedule (schedule.StaticChunk size) = nat_lt 0 size
is_right_schedule (schedule.Dynamic size) = nat_lt 0 size

-- whether a loop's step is other than 0, in the direction of its comparison, and its schedule right
abbrev pub is_right_form : LoopForm → Bool
is_right_form form = nat_lt 0 (step_size form.comparison form.step) && is_right_schedule form.schedule

abbrev pub loop_of : ℕ → LoopForm → ℤ → ℤ → Share
loop_of region form lower upper = opened sharing.Loop region (count_of form.comparison lower upper
    (step_size form.comparison form.step)) lower form.step form.schedule

-- OpenMP 5.2, 11.5: a loop is opened
abbrev pub loop_row : ℕ → ℕ → Context → LoopForm → Option ℤ → Option ℤ → Asked
loop_row worker to c form (Some lower) (Some upper) = if is_right_form form then open_row worker to 2 c
    (loop_of c.regions form lower upper) else decided Lacks
loop_row worker to c form (Some lower) None = decided Lacks
loop_row worker to c form None upper = decided Lacks

-- OpenMP 5.2, 11.3: sections are opened, which are given out one by one
abbrev pub sections_row : ℕ → ℕ → Context → ℕ → Asked
sections_row worker to c n = open_row worker to 0 c (opened sharing.Sections c.regions n (pos 0) (pos 1)
    (schedule.Dynamic 1))

-- a share whose member has begun a chunk
abbrev pub in_chunk : Share → ℕ → Chunk → Construct
in_chunk share taken chunk = construct.Share (record share { taken = taken; next = chunk.first; end = chunk.end })

-- a member's next chunk under a static schedule is taken, or there is none
abbrev pub taken_row : ℕ → ℕ → Share → Option Chunk → Row
taken_row to otherwise share (Some chunk) = Goes (edits to 0 (Replace (in_chunk share (share.taken + 1) chunk))) []
taken_row to otherwise share None = goes otherwise 0 None []

-- the team's next chunk is taken, and counts as given out, or there is none
abbrev pub given_row : ℕ → ℕ → Share → Option Chunk → Row
given_row to otherwise share (Some chunk) = Goes (edits to 0 (Replace (in_chunk share share.taken chunk)))
    (Put (value.Number chunk.end) ∷ [])
given_row to otherwise share None = goes otherwise 0 None []

abbrev pub static_row : ℕ → ℕ → Context → Share → Option ℕ → Asked
static_row to otherwise c share size = decided (taken_row to otherwise share
    (static_chunk size share.count c.team.size c.team.number share.taken))

abbrev pub dynamic_row : ℕ → ℕ → Context → Share → ℕ → Asked
dynamic_row to otherwise c share size = record {
  names = write (obj.Work c.team.name share.region) ∷ [];
  row = λ values. given_row to otherwise share (chunk_within share.count (number_in (first_of values)) size);
}

abbrev pub chunk_row : ℕ → ℕ → Context → Share → Schedule → Asked
chunk_row to otherwise c share schedule.Static = static_row to otherwise c share None
chunk_row to otherwise c share (schedule.StaticChunk size) = static_row to otherwise c share (Some size)
chunk_row to otherwise c share (schedule.Dynamic size) = dynamic_row to otherwise c share size

-- OpenMP 5.2, 11.5.3: the next chunk, by the schedule
abbrev pub grab_row : ℕ → ℕ → Context → Option Share → Asked
grab_row to otherwise c (Some share) = chunk_row to otherwise c share share.schedule
grab_row to otherwise c None = decided Lacks

-- an iteration is begun: its value goes to the iteration variable (OpenMP 5.2, 4.4.1)
abbrev pub value_row : ℕ → Context → ℕ → Share → ℤ → Asked
value_row to c slot share n = record {
  names = write (object_of c (place.Slot slot) 0) ∷ [];
  row = λ _. Goes (edits to 0 (Replace (construct.Share (record share { next = share.next + 1 }))))
      (Put (value.Cell (cell.Int n)) ∷ []);
}

abbrev pub iteration_row : ℕ → ℕ → Context → ℕ → Share → Asked
iteration_row to otherwise c slot share =
    if nat_lt share.next share.end then value_row to c slot share (value_of share.lower share.step share.next)
    else decided (goes otherwise 0 None [])

-- the next iteration of the chunk, where one is left
abbrev pub iterate_row : ℕ → ℕ → Context → ℕ → Option Share → Asked
iterate_row to otherwise c slot (Some share) = if is_loop share.sharing then iteration_row to otherwise c slot share
    else decided Lacks
iterate_row to otherwise c slot None = decided Lacks

abbrev pub section_row : Option ℕ → Row
section_row (Some to) = goes to 0 None []
section_row None = Lacks

-- whether a section was taken
abbrev pub is_section : Share → Bool
is_section share = if is_loop share.sharing then false else nat_lt share.next share.end

-- the section that was taken is gone to
abbrev pub pick_row : List ℕ → Option Share → Asked
pick_row targets (Some share) = decided (if is_section share then section_row (slice_get targets share.next) else Lacks)
pick_row targets None = decided Lacks

-- the kind of a `single` region in its records, for the thread that runs it and for any other
abbrev pub single_work : Bool → works.Work
single_work true = work.SingleExecutor
single_work false = work.SingleOther

-- OpenMP 5.2, 11.1: the first thread that comes runs a `single` region
abbrev pub chosen_row : ℕ → ℕ → Context → Bool → Row
chosen_row to otherwise c true = Goes (begun to 0 (construct.Single true)) (Put (value.Number 1)
    ∷ event (event_record.Work (single_work true) endpoint.Begin c.team.name c.task 1) ∷ [])
chosen_row to otherwise c false = Goes (begun otherwise 0 (construct.Single false))
    (Keep ∷ event (event_record.Work (single_work false) endpoint.Begin c.team.name c.task 1) ∷ [])

abbrev pub single_row : ℕ → ℕ → ℕ → Context → Asked
single_row worker to otherwise c =
    if is_misplaced c then decided (Faults fault.Nesting)
    else record {
      names = write (obj.Work c.team.name c.regions) ∷ events worker ∷ [];
      row = λ values. chosen_row to otherwise c (nat_eq (number_in (first_of values)) 0);
    }

-- a worksharing region is closed
abbrev pub closed_row : ℕ → ℕ → Context → works.Work → ℕ → Asked
closed_row worker to c w n = recorded worker (edits to 0 Close) (event_record.Work w endpoint.End c.team.name c.task n)

abbrev pub end_worksharing_row : ℕ → ℕ → Context → Option Construct → Asked
end_worksharing_row worker to c (Some (construct.Share share)) = closed_row worker to c (work_of share.sharing)
    share.count
end_worksharing_row worker to c (Some (construct.Single runs)) = closed_row worker to c (single_work runs) 1
end_worksharing_row worker to c (Some construct.Masked) = decided Lacks
end_worksharing_row worker to c (Some (construct.Critical lock)) = decided Lacks
end_worksharing_row worker to c (Some (construct.Group name)) = decided Lacks
end_worksharing_row worker to c None = decided Lacks

-- OpenMP 5.2, 10.5: the thread of the filter runs a masked region
abbrev pub filtered_row : ℕ → ℕ → ℕ → Context → Bool → Asked
filtered_row worker to otherwise c true = recorded worker (edits to 1 (Open construct.Masked))
    (event_record.Masked endpoint.Begin c.team.name c.task)
filtered_row worker to otherwise c false = record { names = events worker ∷ []; row = λ _. goes otherwise 1 None [] }

abbrev pub masked_row : ℕ → ℕ → ℕ → Context → Option ℤ → Asked
masked_row worker to otherwise c (Some n) = filtered_row worker to otherwise c (int_eq n (pos c.team.number))
masked_row worker to otherwise c None = decided Lacks

-- whether a region is masked, and whether it is critical with this lock
abbrev pub is_masked : Option Construct → Bool
is_masked (Some construct.Masked) = true
is_masked _ = false

abbrev pub is_critical : ℕ → Option Construct → Bool
is_critical number (Some (construct.Critical held)) = nat_eq held number
is_critical number _ = false

abbrev pub end_masked_row : ℕ → ℕ → Context → Option Construct → Asked
end_masked_row worker to c region =
    if is_masked region then recorded worker (edits to 0 Close) (event_record.Masked endpoint.End c.team.name c.task)
    else decided Lacks

-- OpenMP 5.2, 15.2: a lock is asked for, taken, and given back; regions of one name have one lock
abbrev pub ask_critical_row : ℕ → ℕ → List ℕ → Asked
ask_critical_row worker to lock = recorded worker (Go to 0 None ∷ []) (event_record.MutexAcquire lock)

abbrev pub lock_row : ℕ → ℕ → ℕ → List ℕ → Option ℕ → Row
lock_row worker to number lock None = Goes (edits to 0 (Open (construct.Critical number)))
    (Put (value.Lock (Some worker)) ∷ event (event_record.MutexAcquired lock) ∷ [])
lock_row worker to number lock (Some holder) = Blocked (blocked.Critical holder)

abbrev pub enter_critical_row : ℕ → ℕ → ℕ → List ℕ → Asked
enter_critical_row worker to number lock = record {
  names = write (obj.Lock number) ∷ events worker ∷ [];
  row = λ values. lock_row worker to number lock (holder_in (first_of values));
}

abbrev pub unlock_row : ℕ → List ℕ → Row
unlock_row to lock = Goes (edits to 0 Close) (Put (value.Lock None) ∷ event (event_record.MutexReleased lock) ∷ [])

abbrev pub leave_critical_row : ℕ → ℕ → ℕ → List ℕ → Option Construct → Asked
leave_critical_row worker to number lock region =
    if is_critical number region then record {
      names = write (obj.Lock number) ∷ events worker ∷ [];
      row = λ _. unlock_row to lock;
    }
    else decided Lacks

-- the kind of synchronization that a barrier is
abbrev pub sync_of : barriers.Barrier → syncs.Sync
sync_of barrier_kind.Explicit = sync.BarrierExplicit
sync_of barrier_kind.Worksharing = sync.BarrierWorksharing
sync_of barrier_kind.Parallel = sync.BarrierParallel

-- at the end of the barrier of a parallel region the team is no more
abbrev pub team_at_end : barriers.Barrier → List ℕ → List ℕ
team_at_end barrier_kind.Explicit team = team
team_at_end barrier_kind.Worksharing team = team
team_at_end barrier_kind.Parallel team = []

abbrev pub reached_row : ℕ → ℕ → barriers.Barrier → Context → Asked
reached_row worker to b c = record {
  names = write (obj.Arrived c.team.name c.team.number) ∷ events worker ∷ [];
  row = λ _. goes to 0 None (Put (value.Number (c.phase + 1))
      ∷ event (event_record.SyncRegion (sync_of b) endpoint.Begin c.team.name c.task) ∷ []);
}

-- OpenMP 5.2, 17.1: whether a barrier may not be met in a context; the barriers at the ends of regions may
abbrev pub is_misplaced_barrier : barriers.Barrier → Context → Bool
is_misplaced_barrier barrier_kind.Explicit c = is_misplaced c
is_misplaced_barrier barrier_kind.Worksharing c = false
is_misplaced_barrier barrier_kind.Parallel c = false

-- OpenMP 5.2, 15.3: a member reaches a barrier
abbrev pub arrive_row : ℕ → ℕ → barriers.Barrier → Context → Asked
arrive_row worker to b c = if is_misplaced_barrier b c then decided (Faults fault.Nesting) else reached_row worker
    to b c

-- what is left where a member reads how far the others came
abbrev pub kept : ℕ → List Update
kept size = replicate (size + 1) Keep

-- a member at a barrier that is open or not
abbrev pub departed : ℕ → barriers.Barrier → Context → Bool → Row
departed to b c false = Blocked blocked.Barrier
departed to b c true = Goes (Go to 0 None ∷ CountPhase ∷ []) (kept c.team.size
    ++ event (event_record.SyncRegion (sync_of b) endpoint.End (team_at_end b c.team.name) c.task) ∷ [])

-- it goes on once all members have reached it and the phase's tasks are done
abbrev pub depart_row : ℕ → ℕ → barriers.Barrier → Context → Asked
depart_row worker to b c = record {
  names = barrier c.team c.phase ++ events worker ∷ [];
  row = λ values. departed
      to b c (is_open c.phase c.team.size values);
}

-- number 0 records the end of the region, for the task that made it
abbrev pub region_end : List ℕ → ℕ → List Context → List Record
region_end team zero (maker ∷ below) = event_record.ParallelEnd team maker.task ∷ []
region_end team number below = []

-- what a member's end records: that of the barrier, of its task, and of the region
abbrev pub left_records : Context → List Context → List Record
left_records c below = event_record.SyncRegion sync.BarrierParallel endpoint.End [] c.task
    ∷ event_record.ImplicitTask endpoint.End [] c.task 0 c.team.number flag.Implicit ∷ region_end c.team.name
    c.team.number below

-- a member's task ends at the open barrier of its region, and its own cells die
abbrev pub left : Context → List Context → List Access → Bool → Row
left c below own false = Blocked blocked.Barrier
left c below own true = Goes (EndContext ∷ []) (kept c.team.size
    ++ (deaths own ++ Append (Events (left_records c below)) ∷ []))

abbrev pub left_row : ℕ → Context → List Context → List Access → Asked
left_row worker c below own = record {
  names = barrier c.team c.phase ++ (own ++ events worker ∷ []);
  row = λ values. left c below own (is_open c.phase c.team.size values);
}

-- the end of a member's task: number 0 goes on with the context that made the team, the others are idle
abbrev pub leave_row : ℕ → Context → List Context → List Slot → Kind → ℕ → Asked
leave_row worker c below slots kind.Initial number = decided Lacks
leave_row worker c below slots kind.Explicit number = decided Lacks
leave_row worker c [] slots kind.Implicit zero = decided Lacks
leave_row worker c below slots kind.Implicit number = left_row worker c below (own_cells c slots)
