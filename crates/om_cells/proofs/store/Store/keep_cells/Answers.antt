use Rattle.std.proofs.Math.Path.{fun_ext}
use Rattle.std.proofs.lemmas.Result.{on_ok_weaker}
use Rattle.std.specs.Prelude.{is_some}
use Rattle.om_foot.specs.Cells.{cell_at}
use Rattle.om_cells.specs.Slots.{kept_over, slot_value}
use Rattle.om_cells.specs.Stores.{state_of, is_kept, kept_in}
use Rattle.om_state.specs.Values.{default_of}
use Rattle.om_cells.proofs.CellStates.{same_or, more_some, some_over, all_kept}
use Rattle.om_cells.proofs.store.Store.keep_cells.Goals as goal

pub returns-clause-state : goal.returns-clause-state
unfolding state_of
returns-clause-state c = fun_ext λ q. same_or (slot_value c.args.self.now.slots q) (slot_value c.keep.new.self q) _
    (default_of q) (c.keep.ensures.grown.holds q)

pub returns-clause-kept : goal.returns-clause-kept
unfolding is_kept
returns-clause-kept c =
    let es = c.keep.new.self in
    let ks = kept_in c.args.self.now.unnamed c.args.self.now.named in
    let slot = c.args.cells.now.slot in
    on_ok_weaker c.keep.result
    (λ keeps. all_kept (λ q. is_some (kept_over (slot_value es q) (ks q))) c.args.cells.now
    (λ i less. some_over (slot_value es (cell_at slot i)) (ks (cell_at slot i)) (keeps i less))) c.keep.ensures.kept

pub returns-clause-others_kept : goal.returns-clause-others_kept
unfolding is_kept
returns-clause-others_kept c = λ q. more_some (slot_value c.args.self.now.slots q) (slot_value c.keep.new.self q) _
    (c.keep.ensures.grown.keeps q)
