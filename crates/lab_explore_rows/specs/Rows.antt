-- Rows: what each object holds at a state, by numbers.
use Rattle.std.specs.Prelude.{◌≡◌, ℕ, zero, suc, ◌≤◌, Bool, true, false, cond, Option, None, Some, List, [], ◌∷◌, length}
use Rattle.std.specs.Prelude.{slice_index}
use Rattle.om_foot.specs.declared.object.Obj.{Obj}
use Rattle.om_foot.specs.Footprint.{obj_eq}
use Rattle.om_state.specs.State.{State}
use Rattle.om_state.specs.declared.value.Val.{Val}
use Rattle.lab_explore_words.specs.Values.{value_words}
use Rattle.lab_explore_rows.specs.Tables.{TablesView, place_of}
use Rattle.lab_explore_rows.specs.WordTables.{number_of}

-- the entry of a value: 0 where it is that of the start, else one above its number
abbrev pub IsEntry : List (List ℕ) → ℕ → Val → Val → Type 0
IsEntry values zero v start = v ≡ start
IsEntry values (suc n) v start = (number_of values (value_words v) ≡ Some n) × (v ≡ start → ⊥)

-- what a row says of an object of a number; one without a number holds what it holds at the start
abbrev pub IsEntryAt : List (List ℕ) → List ℕ → Option ℕ → Val → Val → Type 0
IsEntryAt values row None v start = v ≡ start
IsEntryAt values row (Some n) v start = IsEntry values (slice_index row n) v start

-- whether an object is among these
abbrev pub is_in : List Obj → Obj → Bool
is_in [] q = false
is_in (o ∷ os) q = cond (obj_eq o q) true (is_in os q)

-- a row says what each object holds at a state, but for these objects
pub record IsRowBut (t : TablesView) (start : State) (others : List Obj) (row : List ℕ) (s : State) : Type 0 where
  pub short : length row ≤ length t.objects
  pub entries : (q : Obj) → is_in others q ≡ false → IsEntryAt t.values row (place_of t q) (s q) (start q)

-- the row of a state
abbrev pub IsRow : TablesView → State → List ℕ → State → Type 0
IsRow t start row s = IsRowBut t start [] row s

abbrev pub cut_before : ℕ → List ℕ → List ℕ
cut_before zero [] = []
cut_before x xs = x ∷ xs

-- a row without the zeros at its end
abbrev pub cut : List ℕ → List ℕ
cut [] = []
cut (x ∷ xs) = cut_before x (cut xs)
