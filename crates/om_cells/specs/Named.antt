-- What is kept of the objects of each name.
use Rattle.std.specs.Prelude.{◌≡◌, cond, ◌&&◌, ℕ, List, Option, None, Some}
use Rattle.std.specs.Map.{lookup}
use Rattle.std.specs.BTreeMap.{is_at}
use Rattle.std.specs.Ordering.{nat_cmp}
use Rattle.std.specs.Cmp.Lexicographic.{slice_cmp}
use Rattle.om_foot.specs.declared.part.Part.{Part}
use Rattle.om_foot.specs.contracts.part.PartOrd.TheImpl.{cmp-value}
use Rattle.om_state.specs.declared.value.Val.{Val}
use Rattle.om_cells.specs.Places.{Places, value_at}

-- the names that are known, with the places of each
abbrev pub Named : Type 0
Named = List (List ℕ × Places)

-- the places of the objects of a name, if it is known
abbrev pub places_of : Named → List ℕ → Option Places
places_of es name = lookup (is_at (slice_cmp nat_cmp name)) es

abbrev pub value_among : Option Places → Part → Option Val
value_among None p = None
value_among (Some ps) p = value_at ps p

-- the value that is kept at a part of a name
abbrev pub value_of : Named → List ℕ → Part → Option Val
value_of es name p = value_among (places_of es name) p

-- another value, or none, is kept at a part of a name, and the others stay
abbrev pub PutsOf : List ℕ → Part → Option Val → Named → Named → Type 0
PutsOf name p v old new = (m : List ℕ) (q : Part) → value_of new m q
    ≡ cond (is_at (slice_cmp nat_cmp name) m && is_at (cmp-value.it p) q) v (value_of old m q)

-- what is kept stays
abbrev pub StaysOf : Named → Named → Type 0
StaysOf old new = (m : List ℕ) (q : Part) → value_of new m q ≡ value_of old m q
