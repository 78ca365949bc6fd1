use Rattle.om_undo_history.specs.Replayed.{ReplaysTo-replay}
use Rattle.om_undo_history.specs.Pasts.{past_in}
use Rattle.om_undo_history.proofs.history.History.store.Goals as goal

pub returns-clause-replayed : goal.returns-clause-replayed
returns-clause-replayed c = λ r held.
    ReplaysTo-replay r r.start (past_in c.args.self.now).records (past_in c.args.self.now).state held.past.replays
