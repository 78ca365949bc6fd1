-- For proofs: what takes the updates of a step back, as its record keeps it. That is what one cell held, one list,
-- or parts that go along with those of its accesses, where cells of slots were named at once.
use Rattle.std.specs.Prelude.{◌≡◌, ℕ, Bool, true, false, ◌&&◌, nat_eq, List, [], ◌∷◌, ◌++◌, drop, length}
use Rattle.om_foot.specs.declared.object.Cells.{Cells}
use Rattle.om_foot.specs.declared.footprint.Access.{Access}
use Rattle.om_state.specs.declared.puts.PutParts.{PutParts}
use Rattle.om_state.specs.declared.value.Run.{Run}
use Rattle.om_state.specs.declared.value.Was.{Was}
use Rattle.om_state.specs.declared.step.Entry.{Entry}
use Rattle.om_state.specs.declared.step.Update.{Update}
use Rattle.om_state.specs.declared.step.Update.TheVariants as update
use Rattle.om_state.specs.declared.value.Val.TheVariants as value
use Rattle.om_state.specs.Runs.{runs_listed, were_listed}
use Rattle.om_undo_touches.specs.Accesses.{Parts, control_write, accesses_of}
use Rattle.om_undo_history.specs.declared.kept.BackParts.{BackParts}
use Rattle.om_undo_history.specs.declared.kept.Backs.{Backs}
use Rattle.om_undo_history.specs.declared.kept.Backs.TheVariants as backs
use Rattle.om_undo_history.specs.declared.records.UndoRecord.{UndoRecord}

-- a worker's control, and then these
abbrev pub own_first : ℕ → List Access → List Access
own_first worker others = control_write worker ∷ others

-- the accesses behind the first one, that of the worker's control
abbrev pub further_of : Parts → List Access
further_of p = drop 1 (accesses_of p)

-- each update of parts by itself
abbrev pub puts_in : PutParts → List Update
puts_in p = p.first.items ++ (runs_listed p.runs ++ p.last.items)

-- what takes the puts at the cells of some slots back
abbrev pub backs_listed : List (List Was) → List Update
backs_listed [] = []
backs_listed (w ∷ ws) = were_listed w ++ backs_listed ws

-- what parts hold of each update
abbrev pub parts_back : BackParts → List Update
parts_back p = p.first.items ++ (backs_listed p.cells.items ++ p.last.items)

-- what a record holds of each update
abbrev pub back_in : Backs → List Update
back_in (backs.Cell v) = update.Put (value.Cell v) ∷ []
back_in (backs.Plain us) = us.items
back_in (backs.Parts p) = parts_back p.value

-- the updates of parts that are wanted, before they are made: runs in the place of what takes them back
abbrev pub parts_wanted : BackParts → List Run → List Update
parts_wanted p rs = p.first.items ++ (runs_listed rs ++ p.last.items)

-- the updates that are wanted
abbrev pub wanted : Backs → List Run → List Update
wanted (backs.Cell v) rs = update.Put (value.Cell v) ∷ []
wanted (backs.Plain us) rs = us.items
wanted (backs.Parts p) rs = parts_wanted p.value rs

-- a record of an entry, with its accesses and what takes its updates back
abbrev pub record_of : Entry → Parts → Backs → UndoRecord
record_of e footprint back = record { entry = e; footprint = accesses_of footprint; back = back_in back }

-- whether each run has a put for each cell of a slot
abbrev pub are_along : List Cells → List Run → Bool
are_along [] [] = true
are_along (c ∷ cs) (r ∷ rs) = nat_eq c.count r.count && are_along cs rs
are_along _ _ = false

-- what cells were is a value for each cell of a slot
abbrev pub WereAlong : List Cells → List (List Was) → Type 0
WereAlong [] [] = Unit {0}
WereAlong (c ∷ cs) (w ∷ ws) = (length (were_listed w) ≡ c.count) × WereAlong cs ws
WereAlong _ _ = ⊥

-- the parts of a record go along with those of its accesses behind its worker's control
abbrev pub GoAlong : Parts → Backs → Type 0
GoAlong f (backs.Cell v) = (f.cells ≡ []) × (f.last ≡ [])
GoAlong f (backs.Plain us) = (f.cells ≡ []) × (f.last ≡ [])
GoAlong f (backs.Parts p) = (length f.first ≡ length p.value.first.items) × WereAlong f.cells p.value.cells.items

-- and so do those of updates that are wanted. What one cell held is of a step that is made, so it is never there
abbrev pub CanGoAlong : Parts → Backs → List Run → Type 0
CanGoAlong f (backs.Cell v) rs = ⊥
CanGoAlong f (backs.Plain us) rs = (f.cells ≡ []) × (f.last ≡ [])
CanGoAlong f (backs.Parts p) rs = (length f.first ≡ length p.value.first.items) × (are_along f.cells rs ≡ true)
