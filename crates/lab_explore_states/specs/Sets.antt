-- What contracts see of a set of states.
use Rattle.std.specs.Prelude.{◌≡◌, ℕ, Bool, true, false, List, [], ◌∷◌, ◌++◌, Contains, map}
use Rattle.om_code.specs.declared.raw.Raw.{Raw}
use Rattle.om_state.specs.State.{State}
use Rattle.om_task.specs.Rules.{start_of}
use Rattle.om_undo.specs.Machines.{MachineView, state_in}

-- the program of a set with its number of workers; a machine at the state where the set stands, machines at those where
-- it stood before, the latest first, and at those that were put in, in that order
pub record WalkView : Type 0 where
  pub program : Raw
  pub workers : ℕ
  pub at : MachineView
  pub past : List MachineView
  pub states : List MachineView

-- the same of the states alone
pub record StatesView : Type 0 where
  pub program : Raw
  pub workers : ℕ
  pub at : State
  pub past : List State
  pub states : List State

-- what is seen of a set: the states, and no machines
abbrev pub seen : WalkView → StatesView
seen set = record {
  program = set.program;
  workers = set.workers;
  at = state_in set.at;
  past = map state_in set.past;
  states = map state_in set.states;
}

-- a set that stands at the start, with nothing in it
abbrev pub at_the_start : Raw → ℕ → StatesView
at_the_start program workers = record {
  program = program;
  workers = workers;
  at = start_of program workers;
  past = [];
  states = [];
}

-- a set that goes on to a state
abbrev pub gone_to : State → StatesView → StatesView
gone_to s set = record set { at = s; past = set.at ∷ set.past }

-- a set goes back to where it stood before
abbrev pub GoesBack : StatesView → StatesView → Type 0
GoesBack old new = old ≡ gone_to old.at new

-- a state that is new is put behind the others; one that was there changes nothing
abbrev pub Inserts : Bool → StatesView → StatesView → Type 0
Inserts true old new = (¬ Contains old.states old.at) × (new ≡ record old { states = old.states ++ old.at ∷ [] })
Inserts false old new = Contains old.states old.at × (new ≡ old)

-- a machine stands where a set stands
pub record StandsAt (m : MachineView) (set : StatesView) : Type 0 where
  pub program : m.program ≡ set.program
  pub workers : m.workers ≡ set.workers
  pub state : state_in m ≡ set.at
