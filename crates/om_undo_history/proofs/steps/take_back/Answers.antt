-- With answers here, the prover refuses a mistake in this function without a search for further ones.
use Rattle.std.proofs.Common.{ap, drop, refl}
use Rattle.om_undo_touches.specs.Accesses.{accesses_of}
use Rattle.om_undo_history.proofs.Holding.{rest_kept}
use Rattle.om_undo_history.proofs.steps.take_back.Goals as goal

pub worker-worker-requires : goal.worker-worker-requires
worker-worker-requires c = tt

pub take_further_back-requires-clause-kept : goal.take_further_back-requires-clause-kept
take_further_back-requires-clause-kept c =
    rest_kept c.args.store.now c.args.store.now c.args.made.footprint
    (drop 1 (accesses_of c.into_changes-footprint.result.0)) (ap (drop 1) c.into_changes-footprint.ensures.footprint)
    (λ q. refl) c.requires.room
