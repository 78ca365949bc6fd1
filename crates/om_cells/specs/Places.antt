-- What is kept of the objects of one name.
use Rattle.std.specs.Prelude.{◌≡◌, cond, Option, List}
use Rattle.std.specs.Map.{lookup}
use Rattle.std.specs.BTreeMap.{is_at}
use Rattle.om_foot.specs.declared.part.Part.{Part}
use Rattle.om_foot.specs.contracts.part.PartOrd.TheImpl.{cmp-value}
use Rattle.om_state.specs.declared.value.Val.{Val}

-- the parts at which a value is kept, with it
abbrev pub Places : Type 0
Places = List (Part × Val)

-- the value that is kept at a part
abbrev pub value_at : Places → Part → Option Val
value_at ps p = lookup (is_at (cmp-value.it p)) ps

-- another value, or none, is kept at a part, and the others stay
abbrev pub PutsAt : Part → Option Val → Places → Places → Type 0
PutsAt p v old new = (q : Part) → value_at new q ≡ cond (is_at (cmp-value.it p) q) v (value_at old q)

-- what is kept stays
abbrev pub StaysAt : Places → Places → Type 0
StaysAt old new = (q : Part) → value_at new q ≡ value_at old q
