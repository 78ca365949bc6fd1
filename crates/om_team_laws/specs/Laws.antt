-- What OpenMP promises of critical regions, `single` regions, sections, loops, reductions, tasks and barriers, and is true of the runs of every
-- program.
use Rattle.std.specs.Prelude.{◌≡◌, ◌<◌, ◌≤◌, ◌⊎◌, ℕ, suc, pos, List, Some, true, false}
use Rattle.om_foot.specs.declared.object.Obj.TheVariants as obj
use Rattle.om_code.specs.declared.instruction.Instr.TheVariants as i
use Rattle.om_code.specs.declared.instruction.Place.{Place}
use Rattle.om_code.specs.declared.instruction.Reduction.{Reduction}
use Rattle.om_code.specs.declared.instruction.Schedule.TheVariants as schedule
use Rattle.om_code.specs.declared.instruction.Sharing.TheVariants as sharings
use Rattle.om_code.specs.declared.instruction.Task.TheVariants as taskings
use Rattle.om_code.specs.declared.raw.Raw.{Raw}
use Rattle.om_code.specs.Places.{instruction_at}
use Rattle.om_code.specs.Validity.{IsValid}
use Rattle.om_state.specs.declared.control.Control.TheVariants.{Running}
use Rattle.om_state.specs.declared.control.Share.{Share}
use Rattle.om_state.specs.declared.control.Stack.{Stack}
use Rattle.om_state.specs.declared.step.Choice.TheVariants.{Next}
use Rattle.om_state.specs.declared.step.Label.{Label}
use Rattle.om_state.specs.declared.value.Val.TheVariants.{Control}
use Rattle.om_state.specs.Rules.{next_state, replay, replay_from}
use Rattle.om_state.specs.State.{State}
use Rattle.om_team_serial.specs.Objects.{innermost}
use Rattle.om_team_worksharing.specs.Rows.{share_in}
use Rattle.om_task.specs.Rules.{departs, rules_of, start_of}
use Rattle.om_task.specs.Tasks.{innermost_group}
use Rattle.om_team_laws.specs.Children.{HasChildren, IsChild}
use Rattle.om_team_laws.specs.Criticals.{HasExclusion, IsInside}
use Rattle.om_team_laws.specs.Reductions.{Combines}
use Rattle.om_team_laws.specs.Statics.{AreAlike, BeginsOwn, IsOf}
use Rattle.om_team_laws.specs.Tasks.{GoesOn, IsBegun, IsEnded, IsOrderly, task_at}
use Rattle.om_team_laws.specs.Waits.{FindsAllThere, children_left, tasks_left}
use Rattle.om_team_laws.specs.Works.{Begins, Gives, HasTaken, IsSharedOut, OpensSingle, given_out}

-- ---- critical regions (OpenMP API 5.2, section 15.2)

-- at most one worker is inside of the regions of a lock where a program starts
abbrev pub StartExcludes : Type 0
StartExcludes = (program : Raw) (workers : ℕ) → HasExclusion (start_of program workers)

-- each step keeps that
abbrev pub StepsExclude : Type 0
StepsExclude = (program : Raw) (workers : ℕ) (s t : State) (l : Label) → HasExclusion s
    → next_state (rules_of program workers) s l ≡ Some t → HasExclusion t

-- so it is in each state of a run
abbrev pub RunsExclude : Type 0
RunsExclude = (program : Raw) (workers : ℕ) (ls : List Label) (s : State)
    → replay (rules_of program workers) ls ≡ Some s → HasExclusion s

-- and two workers that are inside of regions of one lock are one
abbrev pub CriticalsExclude : Type 0
CriticalsExclude = (program : Raw) (workers : ℕ) (ls : List Label) (s : State) (lock v w : ℕ)
    → replay (rules_of program workers) ls ≡ Some s → IsInside s lock v → IsInside s lock w → v ≡ w

-- ---- sections, and loops with a dynamic schedule (sections 11.3 and 11.5.3)

-- in each state of a run an iteration or a section is in one chunk of one worker at most
abbrev pub RunsShareOut : Type 0
RunsShareOut = (program : Raw) (workers : ℕ) (ls : List Label) (s : State)
    → replay (rules_of program workers) ls ≡ Some s → IsSharedOut s

-- no two steps of a run give the same one to a worker
abbrev pub GivenOnce : Type 0
GivenOnce = (program : Raw) (workers : ℕ) (between : List Label) (l m : Label) (s t u v : State) (team : List ℕ)
    (region iteration worker other : ℕ)
    → next_state (rules_of program workers) s l ≡ Some t → Gives s t team region iteration worker
    → replay_from (rules_of program workers) t between ≡ Some u
    → next_state (rules_of program workers) u m ≡ Some v → Gives u v team region iteration other → ⊥

-- no two steps of a run begin the same iteration
abbrev pub BegunOnce : Type 0
BegunOnce = (program : Raw) (workers : ℕ) (first between : List Label) (l m : Label) (s t u v : State)
    (team : List ℕ) (region iteration : ℕ) → replay (rules_of program workers) first ≡ Some s
    → next_state (rules_of program workers) s l ≡ Some t → Begins s t team region iteration l.worker
    → replay_from (rules_of program workers) t between ≡ Some u
    → Begins u v team region iteration m.worker → ⊥

-- A member that asks for a further chunk, or for a section, gets what is not given out, or all of the region is given out.
-- So each iteration is given out where a member leaves a loop with a dynamic schedule.
abbrev pub AllAreGivenOut : Type 0
AllAreGivenOut = (program : Raw) (workers : ℕ) (s t : State) (l : Label) (stack : Stack) (share : Share)
    (size otherwise : ℕ) → s (obj.Control l.worker) ≡ Control (Running stack) → l.choice ≡ Next
    → instruction_at program stack.top.frame.body stack.top.frame.next ≡ Some (i.Sharing (sharings.Grab otherwise))
    → share_in stack.top ≡ Some share → share.schedule ≡ schedule.Dynamic (suc size)
    → next_state (rules_of program workers) s l ≡ Some t
    → (given_out s stack.top.team.name share.region < given_out t stack.top.team.name share.region)
    ⊎ (share.count ≤ given_out s stack.top.team.name share.region)

-- ---- loops with a static schedule (section 11.5.3)

-- an iteration that a member begins lies in a chunk that the schedule gives it
abbrev pub StaticIsOwn : Type 0
StaticIsOwn = (program : Raw) (workers : ℕ) (ls : List Label) (s t : State) (team : List ℕ)
    (region iteration worker : ℕ) → replay (rules_of program workers) ls ≡ Some s
    → (b : BeginsOwn s t team region iteration worker) → (r : ℕ) × IsOf b.stack.top.team b.share r iteration

-- No two steps of a run begin the same iteration: neither two of one member, nor two of members whose loops are alike.
abbrev pub StaticOnce : Type 0
StaticOnce = (program : Raw) (workers : ℕ) (first between : List Label) (l m : Label) (s t u v : State)
    (team : List ℕ) (region iteration : ℕ) → replay (rules_of program workers) first ≡ Some s
    → next_state (rules_of program workers) s l ≡ Some t → (b : BeginsOwn s t team region iteration l.worker)
    → replay_from (rules_of program workers) t between ≡ Some u
    → (c : BeginsOwn u v team region iteration m.worker)
    → (b.stack.top.team.number ≡ c.stack.top.team.number)
    ⊎ AreAlike b.stack.top.team c.stack.top.team b.share c.share → ⊥

-- ---- `single` regions (section 11.1)

-- no two steps of a run open the same one to run it
abbrev pub SinglesRunOnce : Type 0
SinglesRunOnce = (program : Raw) (workers : ℕ) (between : List Label) (l m : Label) (s t u v : State)
    (team : List ℕ) (region : ℕ) → OpensSingle true program workers s t l team region
    → replay_from (rules_of program workers) t between ≡ Some u
    → OpensSingle true program workers u v m team region → ⊥

-- a step passes one by only where a step of the run before it has run it, or has taken a part of a loop or of sections
-- that has its number
abbrev pub SinglesAreRun : Type 0
SinglesAreRun = (program : Raw) (workers : ℕ) (ls : List Label) (s t : State) (l : Label) (team : List ℕ) (region : ℕ)
    → replay (rules_of program workers) ls ≡ Some s → OpensSingle false program workers s t l team region
    → HasTaken program workers (start_of program workers) ls team region

-- ---- explicit tasks (sections 12.1, 12.5 and 12.9)

-- in each state of a run the names that tasks and teams get next are new
abbrev pub RunsAreOrderly : Type 0
RunsAreOrderly = (program : Raw) (workers : ℕ) (ls : List Label) (s : State)
    → replay (rules_of program workers) ls ≡ Some s → IsOrderly s

-- so in each step a task stays as it is, is made, is begun by the worker of the step, or is ended by the worker that
-- began it
abbrev pub TasksGoOn : Type 0
TasksGoOn = (program : Raw) (workers : ℕ) (ls : List Label) (s t : State) (l : Label) (name : List ℕ)
    → replay (rules_of program workers) ls ≡ Some s → next_state (rules_of program workers) s l ≡ Some t
    → GoesOn l.worker (task_at s name) (task_at t name)

-- no two steps of a run begin the same task
abbrev pub TasksBeginOnce : Type 0
TasksBeginOnce = (program : Raw) (workers : ℕ) (first between : List Label) (l m : Label) (s t u v : State)
    (name : List ℕ) → replay (rules_of program workers) first ≡ Some s
    → next_state (rules_of program workers) s l ≡ Some t → IsBegun l.worker (task_at s name) (task_at t name)
    → replay_from (rules_of program workers) t between ≡ Some u
    → IsBegun m.worker (task_at u name) (task_at v name) → ⊥

-- and none end the same one
abbrev pub TasksEndOnce : Type 0
TasksEndOnce = (program : Raw) (workers : ℕ) (first between : List Label) (l m : Label) (s t u v : State)
    (name : List ℕ) → replay (rules_of program workers) first ≡ Some s
    → next_state (rules_of program workers) s l ≡ Some t → IsEnded l.worker (task_at s name) (task_at t name)
    → replay_from (rules_of program workers) t between ≡ Some u
    → IsEnded m.worker (task_at u name) (task_at v name) → ⊥

-- ---- barriers (section 15.3)

-- a step by which a member goes on from a barrier, or leaves its region, finds that all have reached it
abbrev pub BarriersWait : Type 0
BarriersWait = (program : Raw) (workers : ℕ) (s t : State) (l : Label) (stack : Stack)
    → s (obj.Control l.worker) ≡ Control (Running stack) → l.choice ≡ Next
    → departs (instruction_at program stack.top.frame.body stack.top.frame.next) ≡ true
    → next_state (rules_of program workers) s l ≡ Some t → FindsAllThere s stack.top

-- ---- children (sections 12.5 and 15.5)

-- in each state of a run of a valid program the count of a task's children is how many of them are unfinished
abbrev pub ChildrenAreCounted : Type 0
ChildrenAreCounted = (program : Raw) (workers : ℕ) (ls : List Label) (s : State) → IsValid program
    → replay (rules_of program workers) ls ≡ Some s → HasChildren s

-- so a task goes on from a `taskwait` only where none of its children is unfinished
abbrev pub ChildrenHaveEnded : Type 0
ChildrenHaveEnded = (program : Raw) (workers : ℕ) (ls : List Label) (s t : State) (l : Label) (stack : Stack)
    (name : List ℕ) → IsValid program → replay (rules_of program workers) ls ≡ Some s
    → s (obj.Control l.worker) ≡ Control (Running stack) → l.choice ≡ Next
    → instruction_at program stack.top.frame.body stack.top.frame.next ≡ Some (i.Task taskings.WaitEnd)
    → next_state (rules_of program workers) s l ≡ Some t → IsChild s stack.top.task name → ⊥

-- ---- waiting for tasks (sections 15.4 and 15.5)

-- a step by which a task goes on from a `taskwait` finds that the count of its children is 0
abbrev pub TaskwaitsWait : Type 0
TaskwaitsWait = (program : Raw) (workers : ℕ) (s t : State) (l : Label) (stack : Stack)
    → s (obj.Control l.worker) ≡ Control (Running stack) → l.choice ≡ Next
    → instruction_at program stack.top.frame.body stack.top.frame.next ≡ Some (i.Task taskings.WaitEnd)
    → next_state (rules_of program workers) s l ≡ Some t → children_left s stack.top ≡ pos 0

-- and one by which it closes its innermost task group, that the count of the tasks of this group is 0
abbrev pub GroupsWait : Type 0
GroupsWait = (program : Raw) (workers : ℕ) (s t : State) (l : Label) (stack : Stack) (group : List ℕ)
    → s (obj.Control l.worker) ≡ Control (Running stack) → l.choice ≡ Next
    → instruction_at program stack.top.frame.body stack.top.frame.next ≡ Some (i.Task taskings.GroupEnd)
    → innermost_group (innermost stack.top.constructs) ≡ Some group
    → next_state (rules_of program workers) s l ≡ Some t → tasks_left s group ≡ pos 0

-- ---- reductions (section 5.5.8)

-- a step of a reduction after which its worker runs on combines the copy with the original, in one step
abbrev pub ReductionsCombine : Type 0
ReductionsCombine = (program : Raw) (workers : ℕ) (s t : State) (l : Label) (stack other : Stack) (r : Reduction)
    (copy : ℕ) (original : Place) → s (obj.Control l.worker) ≡ Control (Running stack) → l.choice ≡ Next
    → instruction_at program stack.top.frame.body stack.top.frame.next
    ≡ Some (i.Sharing (sharings.Reduce r copy original)) → next_state (rules_of program workers) s l ≡ Some t
    → t (obj.Control l.worker) ≡ Control (Running other) → Combines s t stack.top r copy original
