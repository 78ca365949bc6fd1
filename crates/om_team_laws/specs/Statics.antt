-- Which iterations of a loop with a static schedule a member has begun, or may still begin (OpenMP API 5.2, section
-- 11.5.3). No object is shared between the members: each counts its own chunks.
use Rattle.std.specs.Prelude.{◌≡◌, ℕ, ◌+◌, ◌≤◌, ◌<◌, Bool, false, ◌&&◌, nat_eq, nat_le, if◌then◌else◌}
use Rattle.std.specs.Prelude.{Option, None, Some, List, [], ◌∷◌, drop}
use Rattle.om_foot.specs.declared.object.Obj.TheVariants as obj
use Rattle.om_code.specs.declared.instruction.Schedule.{Schedule}
use Rattle.om_code.specs.declared.instruction.Schedule.TheVariants as schedule
use Rattle.om_state.specs.declared.control.Construct.{Construct}
use Rattle.om_state.specs.declared.control.Construct.TheVariants as construct
use Rattle.om_state.specs.declared.control.Context.{Context}
use Rattle.om_state.specs.declared.control.Control.TheVariants.{Running}
use Rattle.om_state.specs.declared.control.Kind.{Kind}
use Rattle.om_state.specs.declared.control.Kind.TheVariants as kind
use Rattle.om_state.specs.declared.control.Share.{Share}
use Rattle.om_state.specs.declared.control.Stack.{Stack}
use Rattle.om_state.specs.declared.control.Team.{Team}
use Rattle.om_state.specs.declared.value.Val.TheVariants as value
use Rattle.om_state.specs.State.{State}
use Rattle.om_team_worksharing.specs.declared.chunk.Chunk.{Chunk}
use Rattle.om_team_worksharing.specs.Chunks.{LiesIn, static_chunk}
use Rattle.om_team_laws.specs.Contexts.{contexts_at}
use Rattle.om_team_laws.specs.Works.{is_dynamic}

-- the chunk size that a static schedule names
abbrev pub size_in : Schedule → Option ℕ
size_in schedule.Static = None
size_in (schedule.StaticChunk size) = Some size
size_in (schedule.Dynamic size) = None

-- an iteration lies in the r-th chunk that a static schedule gives to a member, for its loop
abbrev pub IsOf : Team → Share → (r iteration : ℕ) → Type 0
IsOf team share r iteration = LiesIn (size_in share.schedule) share.count team.size team.number r iteration

-- ---- how often a context may still begin an iteration of a region

-- once where it has a loop of this number open, whose next iteration is not behind this one
abbrev pub waits : (region iteration : ℕ) → Share → Bool
waits region iteration share = if is_dynamic share.schedule then false
    else nat_eq share.region region && nat_le share.next iteration

abbrev pub wait : (region iteration : ℕ) → Construct → ℕ
wait region iteration (construct.Share share) = if waits region iteration share then 1 else 0
wait region iteration (construct.Single runs) = 0
wait region iteration construct.Masked = 0
wait region iteration (construct.Critical lock) = 0
wait region iteration (construct.Group name) = 0

abbrev pub open_waits : (region iteration : ℕ) → List Construct → ℕ
open_waits region iteration [] = 0
open_waits region iteration (x ∷ constructs) = wait region iteration x + open_waits region iteration constructs

-- and once where it has not met the region, since it numbers those that it meets from 0
abbrev pub to_meet : (region regions : ℕ) → ℕ
to_meet region regions = if nat_le regions region then 1 else 0

abbrev pub chances : (region iteration : ℕ) → Context → ℕ
chances region iteration c = to_meet region c.regions + open_waits region iteration c.constructs

-- ---- the chunks of a member

-- what it has left of its chunk
pub record HasOwnChunk (team : Team) (share : Share) : Type 0 where
  pub in_order : share.next ≤ share.end
  -- lies in a chunk that the schedule gives it
  pub own : (iteration : ℕ) → share.next ≤ iteration → iteration < share.end → (r : ℕ) × IsOf team share r iteration
  -- and the chunks that it takes next lie behind it
  pub behind : (r : ℕ) (chunk : Chunk) → share.taken ≤ r
      → static_chunk (size_in share.schedule) share.count team.size team.number r ≡ Some chunk → share.end ≤ chunk.first

-- no explicit task has a loop or sections open, and each member has its own chunks of the loops
abbrev pub IsOwned : Team → Kind → Construct → Type 0
IsOwned team k (construct.Share share) = (k ≡ kind.Explicit → ⊥)
    × (is_dynamic share.schedule ≡ false → team.number < team.size → HasOwnChunk team share)
IsOwned team k (construct.Single runs) = Unit {0}
IsOwned team k construct.Masked = Unit {0}
IsOwned team k (construct.Critical lock) = Unit {0}
IsOwned team k (construct.Group name) = Unit {0}

abbrev pub AreOwned : Team → Kind → List Construct → Type 0
AreOwned team k [] = Unit {0}
AreOwned team k (x ∷ constructs) = IsOwned team k x × AreOwned team k constructs

-- ---- loops that are alike

-- two loops have one schedule and as many iterations, and their teams as many threads
pub record AreAlike (a b : Team) (x y : Share) : Type 0 where
  pub schedule : size_in x.schedule ≡ size_in y.schedule
  pub count : x.count ≡ y.count
  pub size : a.size ≡ b.size

-- ---- a step that begins an iteration

-- A step of a worker, from s to t, begins the next iteration of the chunk that it has of a loop with a static schedule,
-- and counts it. Nothing else of its context is said but its task, its team and how many regions it has met.
pub record BeginsOwn (s t : State) (team : List ℕ) (region iteration worker : ℕ) : Type 0 where
  pub stack : Stack
  pub running : s (obj.Control worker) ≡ value.Control (Running stack)
  pub of_team : stack.top.team.name ≡ team
  pub has_number : stack.top.team.number < stack.top.team.size
  pub share : Share
  pub innermost : stack.top.constructs ≡ construct.Share share ∷ drop 1 stack.top.constructs
  pub static : is_dynamic share.schedule ≡ false
  pub of_region : share.region ≡ region
  pub is_it : share.next ≡ iteration
  pub in_chunk : iteration < share.end
  pub context : Context
  pub same_task : context.task ≡ stack.top.task
  pub same_regions : context.regions ≡ stack.top.regions
  pub same_below : contexts_at t worker ≡ context ∷ stack.below
  pub counted : context.constructs
      ≡ construct.Share (record share { next = share.next + 1 }) ∷ drop 1 stack.top.constructs
