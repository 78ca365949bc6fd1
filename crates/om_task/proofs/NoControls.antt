-- A row that names no control is shaped, if it puts cells at cells.
use Rattle.std.proofs.Common.{◌≡◌, refl, ℕ, zero, suc, ◌+◌, Bool, true, false, if◌then◌else◌}
use Rattle.std.proofs.Common.{List, [], ◌∷◌, ◌++◌, Option, None, Some}
use Rattle.om_foot.specs.declared.footprint.Access.{Access}
use Rattle.om_foot.specs.declared.footprint.Mode.{Mode}
use Rattle.om_foot.specs.declared.footprint.Mode.TheVariants as mode
use Rattle.om_code.specs.declared.instruction.Place.{Place}
use Rattle.om_code.specs.declared.instruction.Place.TheVariants as place
use Rattle.om_code.specs.declared.raw.Slot.{Slot}
use Rattle.om_state.specs.declared.control.Context.{Context}
use Rattle.om_state.specs.declared.control.Home.{Home}
use Rattle.om_state.specs.declared.control.Home.TheVariants.{Own, Elsewhere}
use Rattle.om_state.specs.declared.control.Team.{Team}
use Rattle.om_state.specs.declared.step.Update.{Update}
use Rattle.om_state.specs.declared.step.Update.TheVariants.{Keep, Put, Add, Append, Cut}
use Rattle.om_state.specs.declared.value.Val.{Val}
use Rattle.om_state.specs.declared.value.Val.TheVariants as value
use Rattle.om_state.specs.Homes.{cell_of}
use Rattle.om_team_serial.specs.declared.row.Row.{Row}
use Rattle.om_team_serial.specs.declared.row.Row.TheVariants.{Goes, Faults, Blocked, Lacks}
use Rattle.om_team_serial.specs.Rows.{Asked, decided}
use Rattle.om_team_serial.specs.Objects.{object_of, slot_cells, given_cells, own_slot, own_from, own_cells, home_at, events}
use Rattle.om_team_worksharing.specs.Barriers.{arrivals, barrier}
use Rattle.om_team.specs.Teams.{member_cells}
use Rattle.om_task.specs.Tasks.{counts}
use Rattle.om_task.specs.Shapes.{is_trailed, IsControl, IsShapedAt, AreShaped}
use Rattle.om_task.proofs.CellPuts.{RowPutsCells, RowPutsNothingElse, NameNoCell, row_without, row_of_cells}

-- the updates of a row are shaped along its names
abbrev pub RowShaped : List Access → Row → Type 0
RowShaped names (Goes edits us) = AreShaped names us
RowShaped names _ = Unit {0}

-- so they are whatever is read
pub record AskedShaped (a : Asked) : Type 0 where
  pub row : (values : List Val) → RowShaped a.names (a.row values)
  pub cells : (values : List Val) → RowPutsCells a.names (a.row values)

-- no access names a control
abbrev pub NameNoControl : List Access → Type 0
NameNoControl [] = Unit {0}
NameNoControl (a ∷ rest) = (is_trailed a.object ≡ false) × NameNoControl rest

pub none_append : (xs ys : List Access) → NameNoControl xs → NameNoControl ys → NameNoControl (xs ++ ys)
none_append [] ys h k = k
none_append (x ∷ xs) ys h k = (h.0, none_append xs ys h.1 k)

put_elsewhere : (v : Val) → IsControl v false
put_elsewhere (value.Control c) = tt
put_elsewhere (value.Task t) = tt
put_elsewhere (value.Cell c) = tt
put_elsewhere (value.Count k) = tt
put_elsewhere (value.Number k) = tt
put_elsewhere (value.Lock k) = tt
put_elsewhere (value.Output k) = tt
put_elsewhere (value.Events k) = tt

written_elsewhere : (u : Update) → IsShapedAt mode.Write u false
written_elsewhere (Put v) = put_elsewhere v
written_elsewhere Keep = tt
written_elsewhere (Add d) = tt
written_elsewhere (Append t) = tt
written_elsewhere (Cut k) = tt

-- at an object that is no control each update is shaped
shaped_elsewhere : (m : Mode) (u : Update) (trailed : Bool) → trailed ≡ false → IsShapedAt m u trailed
shaped_elsewhere m u true e = cc
shaped_elsewhere mode.Write u false e = written_elsewhere u
shaped_elsewhere mode.Read u false e = tt
shaped_elsewhere mode.Add u false e = tt

-- where no control is named all updates are shaped
pub none_shaped : (names : List Access) (us : List Update) → NameNoControl names → AreShaped names us
none_shaped [] us h = tt
none_shaped (a ∷ names) [] h = tt
none_shaped (a ∷ names) (u ∷ us) h = (
  shaped_elsewhere a.mode u (is_trailed a.object) h.0,
  none_shaped names us h.1,
)

row_shaped : (names : List Access) (r : Row) → NameNoControl names → RowShaped names r
row_shaped names (Goes edits us) h = none_shaped names us h
row_shaped names (Faults f) h = tt
row_shaped names (Blocked b) h = tt
row_shaped names Lacks h = tt

pub plain : (a : Asked) → NameNoControl a.names → ((values : List Val) → RowPutsCells a.names (a.row values))
    → AskedShaped a
plain a h k = record { row = λ values. row_shaped a.names (a.row values) h; cells = k }

-- a row that puts nothing but cells
pub of_cells : (a : Asked) → NameNoControl a.names → ((values : List Val) → RowPutsNothingElse (a.row values))
    → AskedShaped a
of_cells a h k = plain a h (λ values. row_of_cells a.names (a.row values) (k values))

-- a row that names no cell either
pub apart : (a : Asked) → NameNoControl a.names → NameNoCell a.names → AskedShaped a
apart a h k = plain a h (λ values. row_without a.names (a.row values) k)

-- a row that names nothing
pub by_control : (r : Row) → AskedShaped (decided r)
by_control r = apart (decided r) tt tt

pub if_asked : (b : Bool) (x y : Asked) → AskedShaped x → AskedShaped y → AskedShaped (if b then x else y)
if_asked true x y h k = h
if_asked false x y h k = k

-- cells are no controls, wherever they lie
cell_none : (task : List ℕ) (frame slot index : ℕ) (home : Home)
    → is_trailed (cell_of task frame slot index home) ≡ false
cell_none task frame slot index Own = refl
cell_none task frame slot index (Elsewhere t f s) = refl

pub object_none : (c : Context) (p : Place) (index : ℕ) → is_trailed (object_of c p index) ≡ false
object_none c (place.Global variable) index = refl
object_none c (place.Slot slot) index = cell_none c.task c.frame.ordinal slot index (home_at c.frame.homes slot)

pub slot_none : (task : List ℕ) (frame slot : ℕ) (home : Home) (index count : ℕ)
    → NameNoControl (slot_cells task frame slot home index count)
slot_none task frame slot home index zero = tt
slot_none task frame slot home index (suc count) = (
  cell_none task frame slot index home,
  slot_none task frame slot home (index + 1) count,
)

pub given_none : (task : List ℕ) (frame : ℕ) (slots : List ℕ) → NameNoControl (given_cells task frame slots)
given_none task frame [] = tt
given_none task frame (slot ∷ slots) = (refl, given_none task frame slots)

own_slot_none : (c : Context) (slot cells : ℕ) (home : Home) → NameNoControl (own_slot c slot cells home)
own_slot_none c slot cells Own = slot_none c.task c.frame.ordinal slot Own 0 cells
own_slot_none c slot cells (Elsewhere t f s) = tt

own_from_none : (c : Context) (number : ℕ) (slots : List Slot) → NameNoControl (own_from c number slots)
own_from_none c number [] = tt
own_from_none c number (slot ∷ slots) = none_append _ _ (own_slot_none c number slot.cells
    (home_at c.frame.homes number)) (own_from_none c (number + 1) slots)

pub own_none : (c : Context) (slots : List Slot) → NameNoControl (own_cells c slots)
own_none c slots = own_from_none c 0 slots

arrivals_none : (team : List ℕ) (number count : ℕ) → NameNoControl (arrivals team number count)
arrivals_none team number zero = tt
arrivals_none team number (suc count) = (refl, arrivals_none team (number + 1) count)

pub barrier_none : (team : Team) (phase : ℕ) → NameNoControl (barrier team phase)
barrier_none team phase = none_append _ _ (arrivals_none team.name 0 team.size) (refl, tt)

pub members_none : (team given : List ℕ) (number count : ℕ) → NameNoControl (member_cells team given number count)
members_none team given number zero = tt
members_none team given number (suc count) = none_append _ _ (given_none (team ++ number ∷ []) 0 given)
    (members_none team given (number + 1) count)

-- nor do the counts of a task, with the records of a worker behind them
pub counts_none : (parent : List ℕ) (c : Context) (group : Option (List ℕ)) (worker : ℕ)
    → NameNoControl (counts parent c group ++ events worker ∷ [])
counts_none parent c None worker = (refl, (refl, (refl, tt)))
counts_none parent c (Some g) worker = (refl, (refl, (refl, (refl, tt))))
