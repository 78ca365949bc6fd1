use Rattle.std.proofs.Common.{◌≡◌, take, true}
use Rattle.std.specs.Prelude.{All}
use Rattle.om_foot.specs.declared.object.Obj.{Obj}
use Rattle.om_foot.specs.Cells.{cells_listed}
use Rattle.om_memory.specs.Memories.{state_of, is_kept, pasts_of}
use Rattle.om_undo_history.proofs.updates.keep_cells.Given as goal

-- the cells of the slots so far are kept
abbrev pub invariant-loop-cells : goal.invariant-loop-cells
invariant-loop-cells l = record {
  shared : l.shared ≡ take l.cells-index l.all;
  same : state_of l.store ≡ state_of l.fn.store;
  same_pasts : pasts_of l.store ≡ pasts_of l.fn.store;
  kept : All (λ a. is_kept l.store a.object ≡ true) (cells_listed (take l.cells-index l.all));
  others_kept : (q : Obj) → is_kept l.fn.store q ≡ true → is_kept l.store q ≡ true;
}
