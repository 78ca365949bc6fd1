-- What a row puts at cells is cells: it names none, or puts nothing else.
use Rattle.std.proofs.Common.{◌≡◌, refl, ℕ, zero, suc, ◌+◌, ℤ, Bool, true, false, List, [], ◌∷◌, ◌++◌, replicate}
use Rattle.std.proofs.Common.{Option, None, Some}
use Rattle.std.specs.Prelude.{Result, Ok, Err}
use Rattle.om_foot.specs.declared.footprint.Access.{Access}
use Rattle.om_code.specs.declared.frame.Cell as cells
use Rattle.om_code.specs.declared.frame.Cell.TheVariants as cell
use Rattle.om_code.specs.declared.frame.Fault.{Fault}
use Rattle.om_code.specs.declared.instruction.Barrier.{Barrier}
use Rattle.om_code.specs.declared.instruction.Reduction.{Reduction}
use Rattle.om_code.specs.declared.act.Turn.{Turn}
use Rattle.om_code.specs.declared.act.Turn.TheVariants as turn
use Rattle.om_code.specs.Arithmetic.{combine}
use Rattle.om_state.specs.declared.control.Context.{Context}
use Rattle.om_state.specs.declared.step.Update.{Update}
use Rattle.om_state.specs.declared.step.Update.TheVariants.{Keep, Put, Add, Append, Cut}
use Rattle.om_state.specs.declared.value.Val.{Val}
use Rattle.om_state.specs.declared.value.Val.TheVariants as value
use Rattle.om_team_serial.specs.declared.row.Row.{Row}
use Rattle.om_team_serial.specs.declared.row.Row.TheVariants.{Goes, Faults, Blocked, Lacks}
use Rattle.om_team_serial.specs.Objects.{puts, deaths}
use Rattle.om_team_serial.specs.SerialRows.{row_of, unsets, put_combined, reduced}
use Rattle.om_team_worksharing.specs.Rows.{kept, departed, left}
use Rattle.om_team.specs.Teams.{member_puts}
use Rattle.om_task.specs.Tasks.{additions}
use Rattle.om_task.specs.Shapes.{is_cell, IsCell, PutsCell, PutCells}

-- the updates of a row put cells at the cells that it names
abbrev pub RowPutsCells : List Access → Row → Type 0
RowPutsCells names (Goes edits us) = PutCells names us
RowPutsCells names _ = Unit {0}

-- no access names a cell
abbrev pub NameNoCell : List Access → Type 0
NameNoCell [] = Unit {0}
NameNoCell (a ∷ rest) = (is_cell a.object ≡ false) × NameNoCell rest

-- nothing is put but cells, wherever that is
abbrev pub PutNothingElse : List Update → Type 0
PutNothingElse [] = Unit {0}
PutNothingElse (u ∷ us) = PutsCell u true × PutNothingElse us

abbrev pub RowPutsNothingElse : Row → Type 0
RowPutsNothingElse (Goes edits us) = PutNothingElse us
RowPutsNothingElse _ = Unit {0}

value_elsewhere : (v : Val) → IsCell v false
value_elsewhere (value.Control c) = tt
value_elsewhere (value.Task t) = tt
value_elsewhere (value.Cell c) = tt
value_elsewhere (value.Count k) = tt
value_elsewhere (value.Number k) = tt
value_elsewhere (value.Lock k) = tt
value_elsewhere (value.Output k) = tt
value_elsewhere (value.Events k) = tt

put_elsewhere : (u : Update) (is_one : Bool) → is_one ≡ false → PutsCell u is_one
put_elsewhere u true e = cc
put_elsewhere (Put v) false e = value_elsewhere v
put_elsewhere Keep false e = tt
put_elsewhere (Add d) false e = tt
put_elsewhere (Append t) false e = tt
put_elsewhere (Cut k) false e = tt

put_anywhere : (u : Update) (is_one : Bool) → PutsCell u true → PutsCell u is_one
put_anywhere u true h = h
put_anywhere u false h = put_elsewhere u false refl

no_cells : (names : List Access) (us : List Update) → NameNoCell names → PutCells names us
no_cells [] us h = tt
no_cells (a ∷ names) [] h = tt
no_cells (a ∷ names) (u ∷ us) h = (put_elsewhere u (is_cell a.object) h.0, no_cells names us h.1)

pub only_cells : (names : List Access) (us : List Update) → PutNothingElse us → PutCells names us
only_cells [] us h = tt
only_cells (a ∷ names) [] h = tt
only_cells (a ∷ names) (u ∷ us) h = (put_anywhere u (is_cell a.object) h.0, only_cells names us h.1)

pub row_without : (names : List Access) (r : Row) → NameNoCell names → RowPutsCells names r
row_without names (Goes edits us) h = no_cells names us h
row_without names (Faults f) h = tt
row_without names (Blocked b) h = tt
row_without names Lacks h = tt

pub row_of_cells : (names : List Access) (r : Row) → RowPutsNothingElse r → RowPutsCells names r
row_of_cells names (Goes edits us) h = only_cells names us h
row_of_cells names (Faults f) h = tt
row_of_cells names (Blocked b) h = tt
row_of_cells names Lacks h = tt

-- ---- updates that put nothing but cells

append_cells : (us vs : List Update) → PutNothingElse us → PutNothingElse vs → PutNothingElse (us ++ vs)
append_cells [] vs h k = k
append_cells (u ∷ us) vs h k = (h.0, append_cells us vs h.1 k)

pub puts_cells : (ns : List ℤ) → PutNothingElse (puts ns)
puts_cells [] = tt
puts_cells (n ∷ ns) = (tt, puts_cells ns)

pub deaths_cells : (names : List Access) → PutNothingElse (deaths names)
deaths_cells [] = tt
deaths_cells (a ∷ names) = (tt, deaths_cells names)

pub unsets_cells : (names : List Access) → PutNothingElse (unsets names)
unsets_cells [] = tt
unsets_cells (a ∷ names) = (tt, unsets_cells names)

keeps_cells : (count : ℕ) → PutNothingElse (replicate count Keep)
keeps_cells zero = tt
keeps_cells (suc count) = (tt, keeps_cells count)

members_cells : (ns : List ℤ) (count : ℕ) → PutNothingElse (member_puts ns count)
members_cells ns zero = tt
members_cells ns (suc count) = append_cells (puts ns) (member_puts ns count) (puts_cells ns) (members_cells ns count)

-- with one event behind them, which is appended
pub with_event : (us : List Update) (u : Update) → PutNothingElse us → PutsCell u true → PutNothingElse (us ++ u ∷ [])
with_event us u h k = append_cells us (u ∷ []) h (k, tt)

pub member_cells_put : (ns : List ℤ) (count : ℕ) (u : Update) → PutsCell u true
    → PutNothingElse (member_puts ns count ++ u ∷ [])
member_cells_put ns count u k = with_event (member_puts ns count) u (members_cells ns count) k

added_cells : (d : ℤ) (group : Option (List ℕ)) → PutNothingElse (additions d group)
added_cells d None = (tt, (tt, tt))
added_cells d (Some g) = (tt, (tt, (tt, tt)))

-- the puts or deaths of a task's cells, with the counts and the event behind them
pub task_cells : (us : List Update) (d : ℤ) (group : Option (List ℕ)) (u : Update) → PutNothingElse us
    → PutsCell u true → PutNothingElse (us ++ (additions d group ++ u ∷ []))
task_cells us d group u h k = append_cells us (additions d group ++ u ∷ []) h
    (with_event (additions d group) u (added_cells d group) k)

-- ---- rows

pub turn_cells : (to : ℕ) (us : List Update) (t : Turn) → PutNothingElse us → RowPutsNothingElse (row_of to us t)
turn_cells to us (turn.Goes jump takes pushed None) h = h
turn_cells to us (turn.Goes jump takes pushed (Some n)) h = (tt, h)
turn_cells to us (turn.Faults f) h = tt
turn_cells to us turn.Lacks h = tt
turn_cells to us (turn.Returns v) h = tt
turn_cells to us (turn.Finishes n) h = tt

combined_cells : (to : ℕ) (r : Result ℤ Fault) → RowPutsNothingElse (put_combined to r)
combined_cells to (Ok n) = (tt, (tt, tt))
combined_cells to (Err f) = tt

pub reduced_cells : (to : ℕ) (r : Reduction) (copy original : cells.Cell)
    → RowPutsNothingElse (reduced to r copy original)
reduced_cells to r cell.Dead original = tt
reduced_cells to r cell.Unset cell.Dead = tt
reduced_cells to r cell.Unset cell.Unset = tt
reduced_cells to r cell.Unset (cell.Int n) = tt
reduced_cells to r (cell.Int m) cell.Dead = tt
reduced_cells to r (cell.Int m) cell.Unset = tt
reduced_cells to r (cell.Int m) (cell.Int n) = combined_cells to (combine r n m)

pub departed_cells : (to : ℕ) (b : Barrier) (c : Context) (opens : Bool) → RowPutsNothingElse (departed to b c opens)
departed_cells to b c true = with_event (kept c.team.size) _ (keeps_cells (c.team.size + 1)) tt
departed_cells to b c false = tt

pub left_cells : (c : Context) (below : List Context) (own : List Access) (opens : Bool)
    → RowPutsNothingElse (left c below own opens)
left_cells c below own true = append_cells (kept c.team.size) _ (keeps_cells (c.team.size + 1))
    (with_event (deaths own) _ (deaths_cells own) tt)
left_cells c below own false = tt
