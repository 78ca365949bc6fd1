use Rattle.om_lower_emit.specs.Emits.{names_at}
use Rattle.om_lower_emit.proofs.Leaves.{atomic_element_is, atomic_is, emits_then, emits_then_one}
use Rattle.om_lower_emit.proofs.alone.update.Goals as goal

pub returns-in_ok-put-in-None : goal.returns-in_ok-put-in-None
returns-in_ok-put-in-None c = rw c.in-None.is
    (emits_then_one (names_at c.args.here.now) _ _ _ _ _ _ c.in_ok-value-in-None.ensures
    (atomic_is _ _ _ _ _ _ _ _ _ c.update_of-operator.ensures c.side_of-side.ensures c.place-place.ensures
    c.in_ok-put-in-None.ensures))

pub returns-in_ok-put-in-Some : goal.returns-in_ok-put-in-Some
returns-in_ok-put-in-Some c = rw c.in-Some.is
    (emits_then _ _ _ _ _ c.in_ok-value-in-Some.ensures
    (emits_then_one (names_at c.args.here.now) _ _ _ _ _ _ c.in_ok-value-in-Some-2.ensures
    (atomic_element_is _ _ _ _ _ _ _ _ _ c.update_of-operator.ensures c.side_of-side.ensures c.place-place.ensures
    c.in_ok-put-in-Some.ensures)))
