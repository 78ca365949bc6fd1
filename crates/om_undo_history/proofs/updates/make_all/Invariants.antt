use Rattle.std.proofs.Common.{◌≡◌, length}
use Rattle.om_foot.specs.declared.object.Obj.{Obj}
use Rattle.om_memory.specs.Memories.{state_of, is_kept, pasts_of}
use Rattle.om_undo_history.proofs.Making.{IsMade}
use Rattle.om_undo_history.proofs.updates.make_all.Given as goal

-- so many updates were made
abbrev pub invariant-loop-i : goal.invariant-loop-i
invariant-loop-i l = record {
  made : IsMade l.i l.footprint l.fn.updates.items (state_of l.fn.store) (pasts_of l.fn.store) l.updates.items
      (state_of l.store) (pasts_of l.store);
  kept : (q : Obj) → is_kept l.store q ≡ is_kept l.fn.store q;
  same_length : length l.updates.items ≡ length l.fn.updates.items;
}
