-- Runs of so many workers, and sets of states that no step leaves.
use Rattle.std.specs.Prelude.{◌≡◌, ◌≢◌, ℕ, ◌<◌, Option, None, Some, List, [], ◌∷◌, Contains}
use Rattle.om_state.specs.declared.step.Label.{Label}
use Rattle.om_state.specs.Rules.{Rules, next_state, replay, replay_from}
use Rattle.om_state.specs.State.{State}

-- steps of so many workers, who are numbered from 0
abbrev pub AreOf : ℕ → List Label → Type 0
AreOf workers [] = Unit {0}
AreOf workers (l ∷ ls) = (l.worker < workers) × AreOf workers ls

-- a run of so many workers leads from the start to a state: these steps can be made in turn, and this comes of them
pub record Leads (r : Rules) (workers : ℕ) (ls : List Label) (s : State) : Type 0 where
  pub own : AreOf workers ls
  pub replayed : replay r ls ≡ Some s

-- some run leads there
pub record IsReached (r : Rules) (workers : ℕ) (s : State) : Type 0 where
  pub labels : List Label
  pub leads : Leads r workers labels s

-- no worker can make a step
abbrev pub IsEnd : Rules → ℕ → State → Type 0
IsEnd r workers s = (l : Label) → l.worker < workers → next_state r s l ≡ None

-- a run leads to a state, and from there steps of the workers, one at least, lead to another state
pub record LeadsOn (r : Rules) (workers : ℕ) (s t : State) : Type 0 where
  pub before : List Label
  pub behind : List Label
  pub leads : Leads r workers before s
  pub own : AreOf workers behind
  pub some : behind ≢ []
  pub replayed : replay_from r s behind ≡ Some t

-- some run comes to a state and back to it. So one can go round there for ever
abbrev pub GoesRound : Rules → ℕ → Type 0
GoesRound r workers = (s : State) × LeadsOn r workers s s

-- a set of states that holds the start, and that no step of a worker leaves
pub record IsClosed (r : Rules) (workers : ℕ) (stored : List State) : Type 0 where
  pub start : Contains stored r.start
  pub closed : (s t : State) (l : Label) → Contains stored s → l.worker < workers → next_state r s l ≡ Some t
      → Contains stored t

-- such a set holds each state that a run leads to
abbrev pub ClosedSetsHoldAll : Type 0
ClosedSetsHoldAll = (r : Rules) (workers : ℕ) (stored : List State) → IsClosed r workers stored → (ls : List Label)
    (s : State) → Leads r workers ls s → Contains stored s
