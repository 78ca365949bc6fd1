-- Locks that a worker holds.
use Rattle.std.proofs.Common.{◌≡◌, ap, ℕ, suc, ◌+◌, List, [], ◌∷◌, ◌++◌, cond, arith}
use Rattle.om_foot.specs.declared.object.Obj.TheVariants as obj
use Rattle.om_state.specs.State.{State}
use Rattle.om_state.specs.Values.{holder_in}
use Rattle.lab_explore_closed.specs.Races.{is_holder, locks_below}

pub locks_next : (s : State) (worker lock : ℕ) → locks_below s worker (lock + 1)
    ≡ locks_below s worker lock ++ cond (is_holder (holder_in (s (obj.Lock lock))) worker) (lock ∷ []) []
locks_next s worker lock = ap (locks_below s worker) next
  where
    next : lock + 1 ≡ suc lock
    next = omega arith
