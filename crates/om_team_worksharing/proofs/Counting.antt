-- What is read and left at a barrier, counted down: the first member, and what is left.
use Rattle.std.proofs.Common.{◌≡◌, refl, sym, ◌∙◌, ap, ℕ, zero, suc, ◌+◌, ◌-◌, ◌<◌, arith, List, [], ◌∷◌, ◌++◌}
use Rattle.std.proofs.Common.{false, if◌then◌else◌, replicate, append_assoc}
use Rattle.std.specs.Prelude.{nat_lt}
use Rattle.om_foot.specs.declared.object.Obj.TheVariants as obj
use Rattle.om_foot.specs.declared.footprint.Access.{Access}
use Rattle.om_state.specs.declared.control.Team.{Team}
use Rattle.om_state.specs.declared.step.Update.{Update}
use Rattle.om_state.specs.State.{State, values_read}
use Rattle.om_state.specs.Values.{number_in}
use Rattle.om_team_serial.specs.Objects.{read}
use Rattle.om_team_worksharing.specs.Barriers.{arrivals, barrier, is_open, open_in}

one_less : (n size : ℕ) → n < size → size - n ≡ suc (size - (n + 1))
one_less n size h = omega arith

pub open_in_next : (s : State) (team : List ℕ) (phase n size : ℕ) → n < size → open_in s team phase n (size - n)
    ≡ (if nat_lt phase (number_in (s (obj.Arrived team n))) then open_in s team phase (n + 1) (size - (n + 1)) else
    false)
open_in_next s team phase n size h = ap (open_in s team phase n) (one_less n size h)

open_from : (s : State) (team : List ℕ) (phase n k : ℕ) (more : List Access) → is_open phase k
    (values_read (arrivals team n k ++ read (obj.Pending team phase) ∷ more) s) ≡ open_in s team phase n k
open_from s team phase n zero more = refl
open_from s team phase n (suc k) more = ap (λ b. if nat_lt phase (number_in (s (obj.Arrived team n))) then b else
    false) (open_from s team phase (n + 1) k more)

-- what is read at a barrier says whether it is open
pub barrier_read : (s : State) (team : Team) (phase : ℕ) (more : List Access) → is_open phase team.size
    (values_read (barrier team phase ++ more) s) ≡ open_in s team.name phase 0 team.size
barrier_read s team phase more = ap (λ names. is_open phase team.size (values_read names s))
    (append_assoc (arrivals team.name 0 team.size) (read (obj.Pending team.name phase) ∷ []) more)
    ∙ open_from s team.name phase 0 team.size more

pub arrivals_past : (names : List Access) (team : List ℕ) (n size : ℕ) → n < size
    → (names ++ read (obj.Arrived team n) ∷ []) ++ arrivals team (n + 1) (size - (n + 1)) ≡ names ++ arrivals team n
    (size - n)
arrivals_past names team n size h = append_assoc names _ _ ∙ ap (λ k. names ++ arrivals team n k)
    (sym (one_less n size h))

pub replicate_past : (us : List Update) (u : Update) (n size : ℕ) → n < size → (us ++ u ∷ [])
    ++ replicate (size - (n + 1)) u ≡ us ++ replicate (size - n) u
replicate_past us u n size h = append_assoc us _ _ ∙ ap (λ k. us ++ replicate k u) (sym (one_less n size h))
