use Rattle.std.proofs.Common.{drop}
use Rattle.om_undo.specs.Machines.{state_in}
use Rattle.lab_explore_rows.specs.Rows.{IsRowBut}
use Rattle.lab_explore_rows.specs.Tables.{Extends}
use Rattle.lab_explore_states.specs.Touched.{AreBy, ArePlaced, objects_of, start_at}
use Rattle.lab_explore_states.proofs.touched.put_touched.Given as goal

-- the row is right but at the objects that are left
abbrev pub invariant-loop-one : goal.invariant-loop-one
invariant-loop-one l = record {
  by_start : AreBy (start_at l.machine) l.tables;
  extends : Extends l.fn.tables l.tables;
  placed : ArePlaced l.tables l.touched;
  row : IsRowBut l.tables (start_at l.machine) (objects_of (drop l.one-index l.touched)) l.row (state_in l.machine);
}
