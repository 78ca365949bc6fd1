use Rattle.om_cells.specs.Stores.{state_of}
use Rattle.om_cells.proofs.store.Store.ready.Goals as goal

pub returns : goal.returns
unfolding state_of
returns c = c.ready.ensures
