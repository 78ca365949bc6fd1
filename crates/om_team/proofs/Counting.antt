-- Lists and tests that count down: the first one, and what is left.
use Rattle.std.proofs.Common.{◌≡◌, refl, sym, ◌∙◌, ap, ℕ, ℤ, zero, suc, ◌+◌, ◌-◌, ◌<◌, arith, List, [], ◌∷◌, ◌++◌}
use Rattle.std.proofs.Common.{if◌then◌else◌, Some, append_assoc}
use Rattle.om_foot.specs.declared.object.Obj.TheVariants as obj
use Rattle.om_foot.specs.declared.footprint.Access.{Access}
use Rattle.om_state.specs.declared.control.Control.TheVariants as control
use Rattle.om_state.specs.declared.control.Frame.{Frame}
use Rattle.om_state.specs.declared.control.Team.{Team}
use Rattle.om_state.specs.declared.step.Update.{Update}
use Rattle.om_state.specs.declared.step.Update.TheVariants.{Put}
use Rattle.om_state.specs.declared.value.Val.TheVariants as value
use Rattle.om_state.specs.State.{State, values_read}
use Rattle.om_state.specs.Values.{control_in, is_idle}
use Rattle.om_team_serial.specs.Objects.{write, given_cells, puts}
use Rattle.om_team.specs.Teams.{workers_from, first_busy, busy_in, member, member_cells, member_controls, member_puts}

one_less : (n size : ℕ) → n < size → size - n ≡ suc (size - (n + 1))
one_less n size h = omega arith

pub workers_past : (names : List Access) (n size : ℕ) → n < size → (names ++ write (obj.Control n) ∷ [])
    ++ workers_from (n + 1) (size - (n + 1)) ≡ names ++ workers_from n (size - n)
workers_past names n size h = append_assoc names _ _ ∙ ap (λ k. names ++ workers_from n k) (sym (one_less n size h))

pub members_past : (names : List Access) (team given : List ℕ) (n size : ℕ) → n < size
    → (names ++ given_cells (team ++ n ∷ []) 0 given) ++ member_cells team given (n + 1) (size - (n + 1)) ≡ names
    ++ member_cells team given n (size - n)
members_past names team given n size h = append_assoc names _ _ ∙ ap (λ k. names ++ member_cells team given n k)
    (sym (one_less n size h))

pub controls_past : (us : List Update) (team : Team) (frame : Frame) (n : ℕ) → n < team.size
    → (us ++ Put (value.Control
    (control.Running (record { top = member (record team { number = n }) frame; below = [] }))) ∷ [])
    ++ member_controls team frame (n + 1) (team.size - (n + 1)) ≡ us ++ member_controls team frame n (team.size - n)
controls_past us team frame n h = append_assoc us _ _ ∙ ap (λ k. us ++ member_controls team frame n k)
    (sym (one_less n team.size h))

pub given_past : (us : List Update) (ns : List ℤ) (n size : ℕ) → n < size → (us ++ puts ns) ++ member_puts ns
    (size - (n + 1)) ≡ us ++ member_puts ns (size - n)
given_past us ns n size h = append_assoc us _ _ ∙ ap (λ k. us ++ member_puts ns k) (sym (one_less n size h))

pub busy_in_next : (s : State) (n size : ℕ) → n < size → busy_in s n (size - n)
    ≡ (if is_idle (control_in (s (obj.Control n))) then busy_in s (n + 1) (size - (n + 1)) else Some n)
busy_in_next s n size h = ap (busy_in s n) (one_less n size h)

busy_from : (s : State) (n k : ℕ) (more : List Access) → first_busy n k (values_read (workers_from n k ++ more) s)
    ≡ busy_in s n k
busy_from s n zero more = refl
busy_from s n (suc k) more = ap (λ o. if is_idle (control_in (s (obj.Control n))) then o else Some n)
    (busy_from s (n + 1) k more)

-- what is read of the workers says which is busy
pub busy_read : (s : State) (k : ℕ) (more : List Access) → first_busy 1 k (values_read (workers_from 1 k ++ more) s)
    ≡ busy_in s 1 k
busy_read s k more = busy_from s 1 k more
