use Rattle.std.proofs.Common.{◌≡◌, ◌∙◌, sym, ap, ◌++◌, cond, [], ◌∷◌}
use Rattle.om_foot.specs.declared.object.Obj.TheVariants as obj
use Rattle.om_state.specs.Values.{holder_in}
use Rattle.om_undo.specs.Machines.{state_in}
use Rattle.lab_explore_closed.specs.Races.{is_holder}
use Rattle.lab_explore_moves.proofs.LockLemmas.{locks_next}
use Rattle.lab_explore_moves.proofs.locks.held.Goals as goal

pub loop-lock-preserved : goal.loop-lock-preserved
loop-lock-preserved c =
    c.in_ok-push_held.ensures
    ∙ ap (λ locks. locks ++ cond (is_holder (holder_in (state_in c.args.machine.now (obj.Lock c.loop-lock.lock)))
    c.args.worker) (c.loop-lock.lock ∷ []) []) c.loop-lock.invariant
    ∙ sym (locks_next (state_in c.args.machine.now) c.args.worker c.loop-lock.lock)
