use Rattle.std.proofs.Common.{◌∙◌, ap}
use Rattle.om_cells.specs.Stores.{state_of}
use Rattle.om_state.specs.State.{with_value}
use Rattle.om_cells.proofs.StoreLemmas.{put_back}
use Rattle.om_cells.proofs.store.Store.append.Goals as goal

pub returns-clause-unchanged_on_error : goal.returns-clause-unchanged_on_error
returns-clause-unchanged_on_error c =
    put_back c.append-appended.result c.args.object.now _ _ _ (state_of c.args.self.now) _
    c.append-appended.ensures.unchanged_on_error c.put_present-value.ensures.before
    (c.put_present.ensures.state ∙ ap (with_value c.args.object.now _) c.put_present-value.ensures.state)
