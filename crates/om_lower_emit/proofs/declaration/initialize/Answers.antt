use Rattle.om_lower_emit.specs.Emits.{names_at}
use Rattle.om_lower_emit.proofs.Leaves.{emits_then_one}
use Rattle.om_lower_emit.proofs.declaration.initialize.Goals as goal

pub returns-in_ok-store-in-Some : goal.returns-in_ok-store-in-Some
returns-in_ok-store-in-Some c = rw c.in-Some.is
    (emits_then_one (names_at c.args.here.now) _ _ _ _ _ _
    c.in_ok-value-in-Some.ensures c.in_ok-store-in-Some.ensures)
