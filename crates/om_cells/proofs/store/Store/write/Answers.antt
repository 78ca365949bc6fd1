use Rattle.om_cells.specs.Slots.{slot_value}
use Rattle.om_cells.specs.Stores.{state_of, is_kept, kept_in}
use Rattle.om_cells.proofs.CellStates.{same_some}
use Rattle.om_cells.proofs.SlotLemmas.{written_in, same_places}
use Rattle.om_cells.proofs.store.Store.write.Goals as goal

pub returns-then-lie_together-clause-state : goal.returns-then-lie_together-clause-state
unfolding state_of
returns-then-lie_together-clause-state c =
    let lies = c.lie_together.ensures c.if-lie_together.true in
    written_in c.args.cells.now _ c.args.self.now.slots c.put_all.new.self
    (kept_in c.args.self.now.unnamed c.args.self.now.named) lies.has c.put_all.ensures lies.alone

pub returns-then-lie_together-clause-kept : goal.returns-then-lie_together-clause-kept
unfolding is_kept
returns-then-lie_together-clause-kept c = λ q.
    let lies = c.lie_together.ensures c.if-lie_together.true in
    same_some (slot_value c.args.self.now.slots q) (slot_value c.put_all.new.self q) _
    (same_places c.args.cells.now _ c.args.self.now.slots c.put_all.new.self lies.has c.put_all.ensures q)
