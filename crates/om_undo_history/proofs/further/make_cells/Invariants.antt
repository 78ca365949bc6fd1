use Rattle.std.proofs.Common.{◌≡◌, take, length}
use Rattle.std.specs.Prelude.{vec_len, vec_capacity}
use Rattle.om_foot.specs.declared.object.Obj.{Obj}
use Rattle.om_memory.specs.Memories.{state_of, is_kept, pasts_of}
use Rattle.om_undo_history.proofs.CellParts.{CellsMade}
use Rattle.om_undo_history.proofs.further.make_cells.Given as goal

-- the puts at the cells of so many slots were made
abbrev pub invariant-loop-i : goal.invariant-loop-i
invariant-loop-i l = record {
  made : CellsMade (take l.i l.all) (take l.i l.runs) l.were.items (state_of l.fn.store) (state_of l.store);
  pasts : pasts_of l.store ≡ pasts_of l.fn.store;
  kept : (q : Obj) → is_kept l.store q ≡ is_kept l.fn.store q;
  so_many : vec_len l.were ≡ l.i;
  room : vec_capacity l.were ≡ l.count;
}
