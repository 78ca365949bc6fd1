use Rattle.om_lower_emit.specs.Emits.{names_at}
use Rattle.om_lower_emit.proofs.Loops.{ends_turn}
use Rattle.om_lower_emit.proofs.repeated.end_for.Goals as goal

pub returns : goal.returns
returns c = ends_turn _ _ _ _ _ _ _ _ c.requires.next c.requires.apart c.define.ensures
    c.in_ok-perhaps_effect.ensures (c.in_ok-end_loop.ensures (names_at c.args.here.now))
