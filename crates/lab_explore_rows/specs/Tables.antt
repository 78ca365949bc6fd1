-- What contracts see of the numbers of objects and of values, and what is true of them.
use Rattle.std.specs.Prelude.{◌≡◌, ℕ, ◌<◌, Option, Some, List, [], ◌++◌, length, slice_index}
use Rattle.om_foot.specs.declared.object.Obj.{Obj}
use Rattle.om_state.specs.State.{State}
use Rattle.lab_explore_words.specs.Objects.{object_words}
use Rattle.lab_explore_words.specs.Values.{value_words}
use Rattle.lab_explore_rows.specs.WordTables.{number_of, Keeps}

-- the words of objects, in the order of their numbers; for each of these objects the number of what it holds at the
-- start; and the words of values, in the order of their numbers
pub record TablesView : Type 0 where
  pub objects : List (List ℕ)
  pub starts : List ℕ
  pub values : List (List ℕ)

-- nothing has a number
abbrev pub no_tables : TablesView
no_tables = record { objects = []; starts = []; values = [] }

-- the number of an object, if it is known
abbrev pub place_in : List (List ℕ) → Obj → Option ℕ
place_in objects q = number_of objects (object_words q)

abbrev pub place_of : TablesView → Obj → Option ℕ
place_of t q = place_in t.objects q

-- each number is that of an object, and has the number of a value beside it
pub record AreTables (objects : List (List ℕ)) (starts : List ℕ) : Type 0 where
  pub lengths : length starts ≡ length objects
  pub places : (n : ℕ) → n < length objects → (q : Obj) × (place_in objects q ≡ Some n)

-- these are the numbers of what objects hold at the start
abbrev pub HaveStarts : State → TablesView → Type 0
HaveStarts start t = (q : Obj) (n : ℕ) → place_of t q ≡ Some n
    → number_of t.values (value_words (start q)) ≡ Some (slice_index t.starts n)

-- further objects and values may have numbers; no number changes
pub record Extends (old new : TablesView) : Type 0 where
  pub objects : (more : List (List ℕ)) × (new.objects ≡ old.objects ++ more)
  pub values : Keeps old.values new.values
