use Rattle.std.proofs.Common.{◌≡◌, take, length}
use Rattle.om_foot.specs.declared.object.Obj.{Obj}
use Rattle.om_state.specs.State.{taken_back}
use Rattle.om_memory.specs.Memories.{state_of, is_kept, pasts_of}
use Rattle.om_undo_history.specs.Fills.{filled, popped_all, CanTakeBack}
use Rattle.om_undo_history.proofs.updates.take_back_first.Given as goal

-- what is left takes back what all take back
abbrev pub invariant-loop-i : goal.invariant-loop-i
invariant-loop-i l = record {
  state : taken_back (take l.i l.footprint)
      (filled (take l.i l.footprint) (take l.i l.small.items) (pasts_of l.store)) (state_of l.store)
      ≡ taken_back (take l.count l.footprint)
      (filled (take l.count l.footprint) (take l.count l.fn.small.items) (pasts_of l.fn.store)) (state_of l.fn.store);
  pasts : popped_all (take l.i l.footprint) (take l.i l.small.items) (pasts_of l.store)
      ≡ popped_all (take l.count l.footprint) (take l.count l.fn.small.items) (pasts_of l.fn.store);
  can : CanTakeBack (take l.i l.footprint) (take l.i l.small.items) (state_of l.store) (pasts_of l.store);
  kept : (q : Obj) → is_kept l.store q ≡ is_kept l.fn.store q;
  same_length : length l.small.items ≡ length l.fn.small.items;
}
