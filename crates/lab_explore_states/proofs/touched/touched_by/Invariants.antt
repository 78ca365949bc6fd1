use Rattle.std.proofs.Common.{◌≡◌, false, drop}
use Rattle.om_foot.specs.declared.object.Obj.{Obj}
use Rattle.lab_explore_rows.specs.Rows.{is_in}
use Rattle.lab_explore_rows.specs.Tables.{Extends}
use Rattle.lab_explore_states.specs.Touched.{AreBy, ArePlaced, is_changed, objects_of, start_at}
use Rattle.lab_explore_states.proofs.touched.touched_by.Given as goal

-- what was not noted is changed by what is left, if by any
abbrev pub invariant-loop-access : goal.invariant-loop-access
invariant-loop-access l = record {
  by_start : AreBy (start_at l.machine) l.tables;
  extends : Extends l.fn.tables l.tables;
  placed : ArePlaced l.tables l.touched.items;
  covers : (q : Obj) → is_in (objects_of l.touched.items) q ≡ false
      → is_changed l.accesses q ≡ is_changed (drop l.access-index l.accesses) q;
}
