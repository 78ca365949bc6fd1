use Rattle.om_lower_emit.specs.Emits.{names_at}
use Rattle.om_lower_emit.proofs.Leaves.{emits_then_one}
use Rattle.om_lower_emit.proofs.declaration.test.Goals as goal

pub returns : goal.returns
returns c = emits_then_one (names_at c.args.here.now) _ _ _ _ _ _ c.in_ok-value.ensures c.in_ok-put_jump.ensures
