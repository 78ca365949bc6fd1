use Rattle.om_lower_emit.specs.Emits.{names_at}
use Rattle.om_lower_emit.specs.Writing.{emits_then}
use Rattle.om_lower.proofs.worksharing.end_worksharing.Goals as goal

pub returns : goal.returns
returns c = emits_then _ _ _ _ _ c.in_ok-reductions.ensures
    (c.in_ok-worksharing_end.ensures (names_at c.args.here.now))
