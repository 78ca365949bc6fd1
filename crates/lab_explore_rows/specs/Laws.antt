-- What is true of rows.
use Rattle.std.specs.Prelude.{◌≡◌, ℕ, List}
use Rattle.om_state.specs.State.{State}
use Rattle.lab_explore_rows.specs.Rows.{IsRow, cut}
use Rattle.lab_explore_rows.specs.Tables.{AreTables, TablesView}

-- two states are the same exactly where their rows are, but for zeros at the end
abbrev pub RowsTellApart : Type 0
RowsTellApart = (t : TablesView) (start s u : State) (a b : List ℕ) → AreTables t.objects t.starts → IsRow t start a s
    → IsRow t start b u → (cut a ≡ cut b → s ≡ u) × (s ≡ u → cut a ≡ cut b)
