-- What is still to be done, and what of it is a step that leads on from a state.
use Rattle.std.specs.Prelude.{◌≡◌, ℕ, ◌<◌, ◌⊎◌, Some, List, [], ◌∷◌, ◌++◌, Contains}
use Rattle.om_state.specs.declared.step.Entry.{Entry}
use Rattle.om_state.specs.declared.step.Label.{Label}
use Rattle.om_state.specs.Rules.{Rules, next_state}
use Rattle.om_state.specs.State.{State}
use Rattle.om_undo_history.specs.Choices.{label_by}
use Rattle.om_undo_history.specs.Runs.{state_of_entries}
use Rattle.lab_explore.specs.declared.todo.Todo.{Todo}
use Rattle.lab_explore.specs.declared.todo.Todo.TheVariants as todo

-- a step is tried, or the last step that stands is undone, which is this worker's
pub data Act : Type 0 where
  Try : Label → Act
  Back : ℕ → Act

abbrev pub act_of : Todo → Act
act_of (todo.Try worker start) = Try (label_by worker start)
act_of (todo.Back worker) = Back worker

-- steps to be tried, put on top of others one after the other
abbrev pub tries : List Label → List Act → List Act
tries [] acts = acts
tries (l ∷ ls) acts = tries ls (Try l ∷ acts)

-- entries in their order, of which the latest is given first
abbrev pub in_order : List Entry → List Entry
in_order [] = []
in_order (e ∷ latest) = in_order latest ++ e ∷ []

-- the state where these entries stand, the latest first
abbrev pub state_by : Rules → List Entry → State
state_by r latest = state_of_entries r (in_order latest)

-- the states before each of these entries, the latest first
abbrev pub past_by : Rules → List Entry → List State
past_by r [] = []
past_by r (e ∷ latest) = state_by r latest ∷ past_by r latest

-- each step that is to be tried is a worker's, at a state that is stored. Each undo takes back the latest entry then,
-- and leads to a state that is stored. At the end no entry stands
abbrev pub Stands : Rules → ℕ → List State → List Act → List Entry → Type 0
Stands r workers stored [] latest = latest ≡ []
Stands r workers stored (Try l ∷ acts) latest =
    (l.worker < workers) × Contains stored (state_by r latest) × Stands r workers stored acts latest
Stands r workers stored (Back w ∷ acts) [] = ⊥
Stands r workers stored (Back w ∷ acts) (e ∷ latest) =
    (e.worker ≡ w) × Contains stored (state_by r latest) × Stands r workers stored acts latest

-- a step will be tried at a state
abbrev pub IsPending : Rules → List Act → List Entry → State → Label → Type 0
IsPending r [] latest s l = ⊥
IsPending r (Try m ∷ acts) latest s l = ((state_by r latest ≡ s) × (m ≡ l)) ⊎ IsPending r acts latest s l
IsPending r (Back w ∷ acts) [] s l = ⊥
IsPending r (Back w ∷ acts) (e ∷ latest) s l = IsPending r acts latest s l

-- each step from a stored state leads to a stored one, or is still to be tried
abbrev pub AllLead : Rules → ℕ → List State → List Act → List Entry → Type 0
AllLead r workers stored acts latest = (s t : State) (l : Label) → Contains stored s → l.worker < workers
    → next_state r s l ≡ Some t → Contains stored t ⊎ IsPending r acts latest s l

-- the same, but for the steps from one state
abbrev pub AllLeadBut : Rules → ℕ → List State → List Act → List Entry → State → Type 0
AllLeadBut r workers stored acts latest here = (s t : State) (l : Label) → Contains stored s → l.worker < workers
    → next_state r s l ≡ Some t → (Contains stored t ⊎ IsPending r acts latest s l) ⊎ (here ≡ s)
