-- For proofs: records by serial, in a list of rows. A row whose record is taken out stays empty. Empty rows at
-- the end go when a record comes. All empty rows go when room is short.
use Rattle.std.specs.Prelude.{◌≡◌, ℕ, ◌<◌, List, [], ◌∷◌, Option, None, Some, IsSome}
use Rattle.std.specs.Prelude.{slice_get}
use Rattle.om_undo_history.specs.declared.by_serial.Row.{Row}
use Rattle.om_undo_history.specs.declared.records.UndoRecord.{UndoRecord}

-- a row's record, if it stands, before others
abbrev pub with_entry : ℕ → Option UndoRecord → List (ℕ × UndoRecord) → List (ℕ × UndoRecord)
with_entry serial None es = es
with_entry serial (Some k) es = (serial, k) ∷ es

-- the records of rows, each with its serial
abbrev pub entries_in : List Row → List (ℕ × UndoRecord)
entries_in [] = []
entries_in (r ∷ rs) = with_entry r.serial r.kept (entries_in rs)

-- an index is that of the row of a serial
abbrev pub IsPlaceOf : ℕ → List Row → ℕ → Type 0
IsPlaceOf serial rows i = (r : Row) × (slice_get rows i ≡ Some r) × (r.serial ≡ serial)

-- the serials rise, from above a number
abbrev pub AreRising : ℕ → List Row → Type 0
AreRising low [] = Unit {0}
AreRising low (r ∷ rs) = (low < r.serial) × AreRising r.serial rs

-- the last row, if there is one, has its record
abbrev pub LastStands : List Row → Type 0
LastStands [] = Unit {0}
LastStands (r ∷ []) = IsSome r.kept
LastStands (r ∷ x ∷ xs) = LastStands (x ∷ xs)

-- a serial is above all of these
abbrev pub IsAboveAll : ℕ → List (ℕ × UndoRecord) → Type 0
IsAboveAll serial [] = Unit {0}
IsAboveAll serial (e ∷ es) = (e.0 < serial) × IsAboveAll serial es
