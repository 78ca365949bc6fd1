use Rattle.om_lower_emit.specs.Emits.{names_at}
use Rattle.om_lower_emit.proofs.Leaves.{emits_two}
use Rattle.om_lower_emit.proofs.clause.set_original.Goals as goal

pub returns : goal.returns
returns c = emits_two (names_at c.args.here.now) _ _ _ _ _ _ c.in_ok-load.ensures c.in_ok-store.ensures
