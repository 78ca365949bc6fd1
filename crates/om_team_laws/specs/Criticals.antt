-- Who is inside a critical region. OpenMP API 5.2, section 15.2: one thread at a time executes the regions of a name.
use Rattle.std.specs.Prelude.{◌≡◌, ℕ, ◌+◌, ◌≤◌, Some, List, [], ◌∷◌, nat_eq, if◌then◌else◌}
use Rattle.om_foot.specs.declared.object.Obj.TheVariants as obj
use Rattle.om_state.specs.declared.control.Construct.{Construct}
use Rattle.om_state.specs.declared.control.Construct.TheVariants as construct
use Rattle.om_state.specs.declared.control.Context.{Context}
use Rattle.om_state.specs.State.{State}
use Rattle.om_state.specs.Values.{holder_in}
use Rattle.om_team_laws.specs.Contexts.{contexts_at, tally}

-- 1 of a critical region of this lock, 0 of any other region
abbrev pub opening : ℕ → Construct → ℕ
opening lock (construct.Critical held) = if nat_eq held lock then 1 else 0
opening lock (construct.Share share) = 0
opening lock (construct.Single runs) = 0
opening lock construct.Masked = 0
opening lock (construct.Group name) = 0

-- how many of these regions are critical ones of a lock
abbrev pub openings : ℕ → List Construct → ℕ
openings lock [] = 0
openings lock (x ∷ constructs) = opening lock x + openings lock constructs

-- how many such regions a worker has open, in all of its contexts
abbrev pub open_criticals : State → (lock worker : ℕ) → ℕ
open_criticals s lock worker = tally (λ (c : Context). openings lock c.constructs) (contexts_at s worker)

-- A worker is inside where it has one open: also while it runs another task there, and at a fault that it met inside.
abbrev pub IsInside : State → (lock worker : ℕ) → Type 0
IsInside s lock worker = 1 ≤ open_criticals s lock worker

pub record HasExclusion (s : State) : Type 0 where
  -- no worker is inside of two regions of one lock
  pub once : (lock worker : ℕ) → open_criticals s lock worker ≤ 1
  -- and whoever is inside holds the lock, which one worker at most does
  pub held : (lock worker : ℕ) → IsInside s lock worker → holder_in (s (obj.Lock lock)) ≡ Some worker
