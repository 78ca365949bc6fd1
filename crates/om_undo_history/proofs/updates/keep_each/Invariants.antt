use Rattle.std.proofs.Common.{◌≡◌, ◌++◌, take, true}
use Rattle.std.specs.Prelude.{All}
use Rattle.om_foot.specs.declared.object.Obj.{Obj}
use Rattle.om_memory.specs.Memories.{state_of, is_kept, pasts_of}
use Rattle.om_undo_history.proofs.updates.keep_each.Given as goal

-- the objects so far are kept
abbrev pub invariant-loop-access : goal.invariant-loop-access
invariant-loop-access l = record {
  shared : l.shared.items ≡ l.fn.shared.items ++ take l.access-index l.others;
  same : state_of l.store ≡ state_of l.fn.store;
  same_pasts : pasts_of l.store ≡ pasts_of l.fn.store;
  kept : All (λ a. is_kept l.store a.object ≡ true) (take l.access-index l.others);
  others_kept : (q : Obj) → is_kept l.fn.store q ≡ true → is_kept l.store q ≡ true;
}
