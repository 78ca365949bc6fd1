-- What gets a number or an extent as it is seen.
use Rattle.std.specs.Prelude.{◌≡◌, ℕ, List, [], ◌∷◌, ◌++◌, fold}
use Rattle.std.specs.Str.{bytes_eq}
use Rattle.om_scope_tree.specs.declared.resolved.AtomicAccess.{AtomicAccess}
use Rattle.om_scope_tree.specs.ResolvedTree.{ResolvedFunctionTree}
use Rattle.om_lower_rules.specs.Mentions.{Mention, access_mention, extent_mention, format_mention, lock_mention}
use Rattle.om_lower_rules.specs.Mentions.{with_access}
use Rattle.om_lower_rules.specs.Slots.{Extent}
use Rattle.om_lower_rules.specs.Tables.{with_sight}
use Rattle.om_lower_tables.specs.declared.mentions.Mentions.{Mentions}
use Rattle.om_lower_rules.specs.Extents.{measured}
use Rattle.om_lower_rules.specs.ProgramTables.{AreCellsOf}

-- the texts of a program behind further sights
abbrev pub noted : List (List ℕ) → (sights : List (List ℕ)) → List (List ℕ)
noted texts sights = fold (with_sight bytes_eq) texts sights

-- the lines of atomic reads and writes behind further ones
abbrev pub accessed : List (ℕ × AtomicAccess) → (more : List (ℕ × AtomicAccess)) → List (ℕ × AtomicAccess)
accessed lines more = fold with_access lines more

-- what a part mentions has been noted
abbrev pub AreNoted : ((A : Type 0) → Mention A → List A) → Mentions → Mentions → Type 0
AreNoted by old new =
    (new.formats ≡ noted old.formats (by _ format_mention))
    × (new.locks ≡ noted old.locks (by _ lock_mention))
    × (new.extents ≡ measured old.extents (by _ extent_mention))
    × (new.atomics.entries ≡ accessed old.atomics.entries (by _ access_mention))

-- how many cells the variables of one more function have has been found
abbrev pub AddsCells : ResolvedFunctionTree → (old new : List (List Extent)) → Type 0
AddsCells f old new = (extents : List Extent) × (new ≡ old ++ extents ∷ []) × AreCellsOf f extents
