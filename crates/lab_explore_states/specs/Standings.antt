-- What is true of the fields of a set of states.
use Rattle.std.specs.Prelude.{◌≡◌, ℕ, Bool, true, false, None, Some, List, [], ◌∷◌, ◌++◌, map}
use Rattle.std.specs.declared.snapshot.Snapshot.{Snapshot}
use Rattle.std.specs.List.{AllByRecursion}
use Rattle.om_state.specs.State.{State}
use Rattle.om_undo.specs.Machines.{MachineView, state_in}
use Rattle.lab_explore_rows.specs.Rows.{IsRow, cut}
use Rattle.lab_explore_rows.specs.Tables.{TablesView}
use Rattle.lab_explore_rows.specs.WordTables.{number_of}
use Rattle.lab_explore_states.specs.declared.standing.Standing.{Standing}
use Rattle.lab_explore_states.specs.Touched.{AreBy}

abbrev pub machine_of : Standing → MachineView
machine_of x = x.machine.value

-- the state of a row
abbrev pub state_of : Standing → State
state_of x = state_in (machine_of x)

-- a row is that of its state
abbrev pub IsStanding : State → TablesView → Standing → Type 0
IsStanding start t x = IsRow t start x.row (state_of x)

abbrev pub standings : List (Snapshot Standing) → List Standing
standings xs = map (λ (x : Snapshot Standing). x.value) xs

abbrev pub cut_of : Standing → List ℕ
cut_of x = cut x.row

-- tables, the row where a set stands, those before, and the ones that were put in: their rows without the zeros at
-- the end are kept
pub record AreKept (start : State) (t : TablesView) (here : Standing) (past : List Standing) (rows : List (List ℕ))
    (states : List Standing) : Type 0 where
  pub by_start : AreBy start t
  pub stands : IsStanding start t here
  pub stood : AllByRecursion (IsStanding start t) past
  pub stored : AllByRecursion (IsStanding start t) states
  pub cuts : rows ≡ map cut_of states

-- rows and where they were made: nothing changed
abbrev pub IsSame : List (List ℕ) → List Standing → List (List ℕ) → List Standing → Type 0
IsSame rows states new_rows new_states = (new_rows ≡ rows) × (new_states ≡ states)

-- a row that is new is put behind the others; one that was there changes nothing
abbrev pub PutsIn : Standing → Bool → List (List ℕ) → List Standing → List (List ℕ) → List Standing → Type 0
PutsIn x true rows states new_rows new_states = (number_of rows (cut_of x) ≡ None)
    × (new_rows ≡ rows ++ cut_of x ∷ []) × (new_states ≡ states ++ x ∷ [])
PutsIn x false rows states new_rows new_states =
    ((n : ℕ) × (number_of rows (cut_of x) ≡ Some n)) × (new_rows ≡ rows) × (new_states ≡ states)
