-- What a step may do to controls, tasks, locks, and what is given out of worksharing regions: the cases of a law about
-- these.
use Rattle.std.proofs.Common.{◌≡◌, subst, ℕ, ◌+◌, ◌-◌, ◌≤◌, Bool, true, false, None, Some}
use Rattle.std.proofs.Common.{List, [], ◌∷◌, ◌++◌}
use Rattle.std.specs.Prelude.{nat_eq}
use Rattle.om_foot.specs.declared.footprint.Access.{Access}
use Rattle.om_foot.specs.declared.object.Obj.TheVariants as obj
use Rattle.om_code.specs.declared.frame.Fault.{Fault}
use Rattle.om_code.specs.declared.instruction.Schedule.TheVariants as schedule
use Rattle.om_state.specs.declared.control.Construct.TheVariants as construct
use Rattle.om_state.specs.declared.control.Context.{Context}
use Rattle.om_state.specs.declared.control.Control as controls
use Rattle.om_state.specs.declared.control.Control.TheVariants.{Idle, Running, Faulted, Ended}
use Rattle.om_state.specs.declared.control.Edit.{Edit}
use Rattle.om_state.specs.declared.control.Edit.TheVariants.{Go, BeginContext, EndContext, Open, Close, Replace, CountBirth}
use Rattle.om_state.specs.declared.control.Frame.{Frame}
use Rattle.om_state.specs.declared.control.Kind.TheVariants as kind
use Rattle.om_state.specs.declared.control.Share.{Share}
use Rattle.om_state.specs.declared.control.Stack.{Stack}
use Rattle.om_state.specs.declared.control.Team.{Team}
use Rattle.om_state.specs.declared.step.Blocked.{Blocked}
use Rattle.om_state.specs.declared.step.Label.{Label}
use Rattle.om_state.specs.declared.step.Update.{Update}
use Rattle.om_state.specs.declared.step.Update.TheVariants.{Put, Keep}
use Rattle.om_state.specs.declared.value.Ready.{Ready}
use Rattle.om_state.specs.declared.value.Task.TheVariants as task
use Rattle.om_state.specs.declared.value.Val.TheVariants as value
use Rattle.om_state.specs.Edits.{changed}
use Rattle.om_state.specs.Rules.{control_access, state_after_outcome}
use Rattle.om_state.specs.State.{State, updated}
use Rattle.om_state.specs.Values.{holder_in, number_in, task_in}
use Rattle.om_team_serial.specs.declared.row.Row.{Row}
use Rattle.om_team_serial.specs.declared.row.Row.TheVariants as row
use Rattle.om_team_serial.specs.Objects.{innermost, write}
use Rattle.om_team_worksharing.specs.declared.chunk.Chunk.{Chunk}
use Rattle.om_team_worksharing.specs.Chunks.{chunk_within}
use Rattle.om_team_worksharing.specs.Rows.{begun, edits, in_chunk, is_critical, share_in}
use Rattle.om_team.specs.Teams.{member, member_controls, workers_from}
use Rattle.om_task.specs.Rules.{outcome_after}
use Rattle.om_task.specs.Tasks.{born, task_context}
use Rattle.om_team_laws.specs.Criticals.{openings}
use Rattle.om_team_laws.specs.Works.{hands}
use Rattle.om_team_laws.proofs.Owned.{KeepsOwn}
use Rattle.om_team_laws.proofs.Regions.{singles}
use Rattle.om_team_laws.proofs.Traced.{AreUntraced}

-- a context that is still of the same task and team, has as many critical regions of each lock open, no more
-- `single` regions, and its own chunks
pub record IsLike (a b : Context) : Type 0 where
  pub task : b.task ≡ a.task
  pub kind : b.kind ≡ a.kind
  pub team : b.team ≡ a.team
  pub births : a.births ≤ b.births
  pub openings : (lock : ℕ) → openings lock b.constructs ≡ openings lock a.constructs
  pub singles : (which : Bool) → singles which b.constructs ≤ singles which a.constructs
  pub own : KeepsOwn a b

-- a control whose running context is like that of a stack, with the same ones below, or one that has ended
abbrev pub IsQuiet : Stack → controls.Control → Type 0
IsQuiet stack (Running other) = IsLike stack.top other.top × (other.below ≡ stack.below)
IsQuiet stack (Ended result) = Unit {0}
IsQuiet stack (Faulted fault other) = ⊥
IsQuiet stack Idle = ⊥

-- and one that has no iteration more in hand
abbrev pub HasNoMore : Stack → controls.Control → Type 0
HasNoMore stack (Running other) = (region iteration : ℕ)
    → hands region iteration other.top.constructs ≤ hands region iteration stack.top.constructs
HasNoMore stack _ = Unit {0}

-- P holds of each row that a worker may meet which runs this stack at a state, by what the row names and does
pub record Covers (worker : ℕ) (stack : Stack) (s : State) (P : List Access → Row → Type 0) : Type 0 where
  pub faults : (names : List Access) (f : Fault) → P names (row.Faults f)
  pub blocked : (names : List Access) (b : Blocked) → P names (row.Blocked b)
  pub lacks : (names : List Access) → P names row.Lacks
  -- it goes on, and neither leaves its task nor a critical region
  pub goes : (names : List Access) (es : List Edit) (us : List Update) → AreUntraced names
      → IsQuiet stack (changed es (Running stack)) → HasNoMore stack (changed es (Running stack))
      → P names (row.Goes es us)
  -- a member's task ends
  pub leaves : (names : List Access) (us : List Update) → AreUntraced names → stack.top.kind ≡ kind.Implicit
      → P names (row.Goes (EndContext ∷ []) us)
  -- a team is made
  pub forks : (team : Team) (frame : Frame) (to takes : ℕ) (names : List Access) (us : List Update)
      → team.number ≡ 0 → team.name ≡ stack.top.task ++ (stack.top.births + 1) ∷ [] → AreUntraced names
      → P (workers_from 1 (team.size - 1) ++ names)
      (row.Goes (Go to takes None ∷ CountBirth ∷ BeginContext (member team frame) ∷ [])
      (member_controls team frame 1 (team.size - 1) ++ us))
  -- a task is made
  pub makes : (new : List ℕ) (ready : Ready) (to takes : ℕ) (names : List Access) (us : List Update)
      → born stack.top ≡ Some new → AreUntraced names
      → P (write (obj.Task new) ∷ names)
      (row.Goes (Go to takes None ∷ CountBirth ∷ []) (Put (value.Task (task.Ready ready)) ∷ us))
  -- a task begins
  pub begins : (name : List ℕ) (ready : Ready) (names : List Access) (us : List Update)
      → task_in (s (obj.Task name)) ≡ task.Ready ready → AreUntraced names
      → P (write (obj.Task name) ∷ names)
      (row.Goes (BeginContext (task_context name stack.top ready) ∷ []) (Put (value.Task (task.Running worker)) ∷ us))
  -- a task ends
  pub ends : (next : Context) (below : List Context) (names : List Access) (us : List Update)
      → stack.top.kind ≡ kind.Explicit → stack.below ≡ next ∷ below → AreUntraced names
      → P (write (obj.Task stack.top.task) ∷ names) (row.Goes (EndContext ∷ []) (Put (value.Task task.Done) ∷ us))
  -- a lock is taken, and given back
  pub enters : (lock to : ℕ) (names : List Access) (us : List Update) → holder_in (s (obj.Lock lock)) ≡ None
      → AreUntraced names
      → P (write (obj.Lock lock) ∷ names)
      (row.Goes (edits to 0 (Open (construct.Critical lock))) (Put (value.Lock (Some worker)) ∷ us))
  pub exits : (lock to : ℕ) (names : List Access) (us : List Update)
      → is_critical lock (innermost stack.top.constructs) ≡ true → AreUntraced names
      → P (write (obj.Lock lock) ∷ names) (row.Goes (edits to 0 Close) (Put (value.Lock None) ∷ us))
  -- a `single` region is run, or passed by
  pub runs : (to : ℕ) (names : List Access) (us : List Update)
      → number_in (s (obj.Work stack.top.team.name stack.top.regions)) ≡ 0 → AreUntraced names
      → P (write (obj.Work stack.top.team.name stack.top.regions) ∷ names)
      (row.Goes (begun to 0 (construct.Single true)) (Put (value.Number 1) ∷ us))
  pub passes : (to : ℕ) (names : List Access) (us : List Update)
      → nat_eq (number_in (s (obj.Work stack.top.team.name stack.top.regions))) 0 ≡ false → AreUntraced names
      → P (write (obj.Work stack.top.team.name stack.top.regions) ∷ names)
      (row.Goes (begun to 0 (construct.Single false)) (Keep ∷ us))
  -- a chunk is given out, or none is left
  pub takes : (share : Share) (size to : ℕ) (chunk : Chunk) → share_in stack.top ≡ Some share
      → share.schedule ≡ schedule.Dynamic size
      → chunk_within share.count (number_in (s (obj.Work stack.top.team.name share.region))) size ≡ Some chunk
      → P (write (obj.Work stack.top.team.name share.region) ∷ [])
      (row.Goes (edits to 0 (Replace (in_chunk share share.taken chunk))) (Put (value.Number chunk.end) ∷ []))
  pub finds_none : (share : Share) (to : ℕ)
      → P (write (obj.Work stack.top.team.name share.region) ∷ []) (row.Goes (Go to 0 None ∷ []) [])

-- ---- laws of the state behind a step

-- the state behind the step of a worker that runs a stack, by the edits and the updates of its row
abbrev pub behind : Label → Stack → State → List Access → List Edit → List Update → State
behind l stack s names es us =
    updated (control_access l ∷ names) (Put (value.Control (changed es (Running stack))) ∷ us) s

-- Q holds of the state behind a row
abbrev pub Leads : Label → Stack → State → (State → Type 0) → List Access → Row → Type 0
Leads l stack s Q names r = (t : State)
    → state_after_outcome (control_access l ∷ names) (outcome_after (Running stack) r) s ≡ Some t → Q t

module _ (l : Label) (stack : Stack) (s : State) (Q : State → Type 0) where
  pub leads : (names : List Access) (es : List Edit) (us : List Update) → Q (behind l stack s names es us)
      → Leads l stack s Q names (row.Goes es us)
  leads names es us h t e = let new : behind l stack s names es us ≡ t = cc in subst Q new h

  pub leads_to_fault : (names : List Access) (f : Fault)
      → Q (updated (control_access l ∷ names) (Put (value.Control (Faulted f stack)) ∷ []) s)
      → Leads l stack s Q names (row.Faults f)
  leads_to_fault names f h t e =
      let new : updated (control_access l ∷ names) (Put (value.Control (Faulted f stack)) ∷ []) s ≡ t = cc in
      subst Q new h

  pub no_step_blocked : (names : List Access) (b : Blocked) → Leads l stack s Q names (row.Blocked b)
  no_step_blocked names b t e = cc

  pub no_step_lacks : (names : List Access) → Leads l stack s Q names row.Lacks
  no_step_lacks names t e = cc
