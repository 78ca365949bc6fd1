-- Names of tasks are new behind the making of a team.
use Rattle.std.proofs.Common.{◌≡◌, refl, sym, ◌∙◌, ap, ℕ, ◌+◌, ◌≤◌, ◌<◌, arith, List, [], ◌∷◌, ◌++◌}
use Rattle.std.proofs.Common.{◌⊎◌, inl, inr, append_assoc, length, length-append}
use Rattle.om_state.specs.declared.control.Context.{Context}
use Rattle.om_state.specs.declared.control.Kind.TheVariants as kind
use Rattle.om_state.specs.declared.value.Ready.{Ready}
use Rattle.om_state.specs.declared.value.Task.TheVariants as task
use Rattle.om_state.specs.State.{State}
use Rattle.om_team_laws.specs.Contexts.{contexts_at}
use Rattle.om_team_laws.specs.Tasks.{AreDistinct, Has, IsOrderly, StartsWith, task_at}
use Rattle.om_team_laws.proofs.Names.{not_below_itself, same_starts, split_end, split_last, starts_front}
use Rattle.om_team_laws.proofs.Names.{starts_itself}
use Rattle.om_team_laws.proofs.Orders.{FromOld, absent_ready, apart_old, as_it_was, running_old, unborn_old, unmade_old}
use Rattle.om_team_laws.proofs.Orders.{waiting_old}

module _ (s : State) (h : IsOrderly s) (t : State) (w₀ : ℕ) (top : Context) (was : Has (contexts_at s w₀) top)
    (team : List ℕ) (named : team ≡ top.task ++ (top.births + 1) ∷ []) where
  -- a member: the number of its thread is behind the team's name, 0 for the worker that makes the team and else its own
  pub record IsMember (w : ℕ) (d : Context) : Type 0 where
    pub number : ℕ
    pub task : d.task ≡ team ++ number ∷ []
    pub implicit : d.kind ≡ kind.Implicit
    pub which : ((number ≡ 0) × (w ≡ w₀)) ⊎ ((number ≡ w) × (1 ≤ w))

  -- nothing that is there begins with the team's name
  pub not_new : (w : ℕ) (d : Context) → FromOld s w d → StartsWith d.task team → ⊥
  not_new w d f b = unborn_old s h w₀ w top d (top.births + 1) (as_it_was s w₀ top was) f (omega arith)
      (same_starts d.task d.task team (top.task ++ (top.births + 1) ∷ []) refl named b)

  absent_new : (name : List ℕ) → StartsWith name team → task_at s name ≡ task.Absent
  absent_new name b = unmade_old s h w₀ top (top.births + 1) name (as_it_was s w₀ top was) (omega arith)
      (same_starts name name team (top.task ++ (top.births + 1) ∷ []) refl named b)

  starts_team : (w : ℕ) (d : Context) → IsMember w d → StartsWith d.task team
  starts_team w d m = (m.number ∷ [], m.task)

  module _ (from : (w : ℕ) (d : Context) → Has (contexts_at t w) d → FromOld s w d ⊎ IsMember w d)
      (dist : (w : ℕ) → AreDistinct (contexts_at t w))
      (counted : (w : ℕ) (d : Context) → Has (contexts_at t w) d → FromOld s w d → d.task ≡ top.task
      → d.births ≡ top.births + 1)
      (same : (name : List ℕ) → task_at t name ≡ task_at s name) where
    -- no member has a name that is still to come for a context that was there
    not_to_come : (v : ℕ) (c : Context) (k : ℕ) (member : List ℕ) (number : ℕ) → Has (contexts_at t v) c
        → FromOld s v c → c.births < k → member ≡ team ++ number ∷ [] → StartsWith member (c.task ++ k ∷ []) → ⊥
    not_to_come v c k member number a f lt e x =
        first (split_last team c.task number k x.0 (sym e ∙ x.1 ∙ append_assoc c.task (k ∷ []) x.0))
      where
        second : ((top.task ≡ c.task) × (top.births + 1 ≡ k)) ⊎ ((more : List ℕ) × (top.task ≡ c.task ++ k ∷ more)) → ⊥
        second (inl both) =
            let births = counted v c a f (sym both.0) in
            let next = both.1 in
            absurd (omega (arith, births, next, lt))
        second (inr more) = unborn_old s h v w₀ c top k f (as_it_was s w₀ top was) lt
            (more.0, more.1 ∙ sym (append_assoc c.task (k ∷ []) more.0))

        first : ((team ≡ c.task) × (number ≡ k)) ⊎ ((more : List ℕ) × (team ≡ c.task ++ k ∷ more)) → ⊥
        first (inl both) = not_new v c f (same_starts team c.task team team both.0 refl (starts_itself team))
        first (inr more) = second (split_last top.task c.task (top.births + 1) k more.0 (sym named ∙ more.1))

    unborn_forked : (v w : ℕ) (c d : Context) (k : ℕ) → Has (contexts_at t v) c → FromOld s v c ⊎ IsMember v c
        → FromOld s w d ⊎ IsMember w d → c.births < k → StartsWith d.task (c.task ++ k ∷ []) → ⊥
    unborn_forked v w c d k a (inl f) (inl g) lt x = unborn_old s h v w c d k f g lt x
    unborn_forked v w c d k a (inl f) (inr m) lt x = not_to_come v c k d.task m.number a f lt m.task x
    unborn_forked v w c d k a (inr n) (inl g) lt x =
        not_new w d g (starts_front d.task team (n.number ∷ []) (starts_front d.task (team ++ n.number ∷ []) (k ∷ [])
        (same_starts d.task d.task (c.task ++ k ∷ []) ((team ++ n.number ∷ []) ++ k ∷ []) refl
        (ap (λ z. z ++ k ∷ []) n.task) x)))
    unborn_forked v w c d k a (inr n) (inr m) lt x =
        let long = ap length (sym m.task ∙ x.1 ∙ ap (λ z. (z ++ k ∷ []) ++ x.0) n.task) in
        let one = length-append team (m.number ∷ []) in
        let two = length-append ((team ++ n.number ∷ []) ++ k ∷ []) x.0 in
        let three = length-append (team ++ n.number ∷ []) (k ∷ []) in
        let four = length-append team (n.number ∷ []) in
        absurd (omega (arith, long, one, two, three, four))

    unmade_forked : (w : ℕ) (c : Context) (k : ℕ) (name : List ℕ) → FromOld s w c ⊎ IsMember w c → c.births < k
        → StartsWith name (c.task ++ k ∷ []) → task_at s name ≡ task.Absent
    unmade_forked w c k name (inl f) lt x = unmade_old s h w c k name f lt x
    unmade_forked w c k name (inr n) lt x =
        absent_new name (starts_front name team (n.number ∷ []) (starts_front name (team ++ n.number ∷ []) (k ∷ [])
        (same_starts name name (c.task ++ k ∷ []) ((team ++ n.number ∷ []) ++ k ∷ []) refl
        (ap (λ z. z ++ k ∷ []) n.task) x)))

    waiting_forked : (name : List ℕ) (ready : Ready) (w : ℕ) (d : Context) → task_at s name ≡ task.Ready ready
        → FromOld s w d ⊎ IsMember w d → StartsWith d.task name → ⊥
    waiting_forked name ready w d e (inl f) x = waiting_old s h name ready w d e f x
    waiting_forked name ready w d e (inr m) x = first (split_end team name x.0 m.number (sym m.task ∙ x.1))
      where
        under : StartsWith name team → ⊥
        under b = absent_ready (task_at s name) ready (absent_new name b) e

        second : (name ≡ top.task ++ (top.births + 1) ∷ []) ⊎ StartsWith top.task name → ⊥
        second (inl it) = under (same_starts team name team team (named ∙ sym it) refl (starts_itself team))
        second (inr below) = h.waiting name ready w₀ top e was below

        first : (name ≡ team ++ m.number ∷ []) ⊎ StartsWith team name → ⊥
        first (inl it) = under (m.number ∷ [], it)
        first (inr below) = second (split_end top.task name below.0 (top.births + 1) (sym named ∙ below.1))

    one_worker : (v w a b : ℕ) → ((a ≡ 0) × (v ≡ w₀)) ⊎ ((a ≡ v) × (1 ≤ v)) → ((b ≡ 0) × (w ≡ w₀)) ⊎ ((b ≡ w) × (1 ≤ w))
        → a ≡ b → v ≡ w
    one_worker v w a b (inl p) (inl q) e = p.1 ∙ sym q.1
    one_worker v w a b (inl p) (inr q) e =
        let x = p.0 in
        let y = q.0 in
        let z = q.1 in
        absurd (omega (arith, x, y, z, e))
    one_worker v w a b (inr p) (inl q) e =
        let x = p.0 in
        let y = q.0 in
        let z = p.1 in
        absurd (omega (arith, x, y, z, e))
    one_worker v w a b (inr p) (inr q) e = sym p.0 ∙ e ∙ q.0

    same_number : (a b : ℕ) → team ++ a ∷ [] ≡ team ++ b ∷ [] → a ≡ b
    same_number a b e = by (split_last team team a b [] e)
      where
        by : ((team ≡ team) × (a ≡ b)) ⊎ ((more : List ℕ) × (team ≡ team ++ b ∷ more)) → a ≡ b
        by (inl both) = both.1
        by (inr more) = absurd (not_below_itself team more.0 b more.1)

    apart_forked : (v w : ℕ) (c d : Context) → FromOld s v c ⊎ IsMember v c → FromOld s w d ⊎ IsMember w d
        → c.task ≡ d.task → v ≡ w
    apart_forked v w c d (inl f) (inl g) e = apart_old s h v w c d f g e
    apart_forked v w c d (inl f) (inr m) e =
        absurd (not_new v c f (same_starts d.task c.task team team (sym e) refl (starts_team w d m)))
    apart_forked v w c d (inr n) (inl g) e =
        absurd (not_new w d g (same_starts c.task d.task team team e refl (starts_team v c n)))
    apart_forked v w c d (inr n) (inr m) e =
        one_worker v w n.number m.number n.which m.which
        (same_number n.number m.number (sym n.task ∙ e ∙ m.task))

    running_forked : (w : ℕ) (c : Context) → FromOld s w c ⊎ IsMember w c → c.kind ≡ kind.Explicit
        → task_at s c.task ≡ task.Running w
    running_forked w c (inl f) e = running_old s h w c f e
    running_forked w c (inr m) e = let other : kind.Implicit ≡ kind.Explicit = sym m.implicit ∙ e in cc

    pub forks : IsOrderly t
    forks = record {
      unborn = λ v w c d k a b lt x. unborn_forked v w c d k a (from v c a) (from w d b) lt x;
      unmade = λ w c k name a lt x. same name ∙ unmade_forked w c k name (from w c a) lt x;
      waiting = λ name ready w d e b x. waiting_forked name ready w d (sym (same name) ∙ e) (from w d b) x;
      childless = λ name ready number rest e. same (name ++ number ∷ rest)
          ∙ h.childless name ready number rest (sym (same name) ∙ e);
      apart = λ v w c d a b e. apart_forked v w c d (from v c a) (from w d b) e;
      distinct = dist;
      running = λ w c a e. same c.task ∙ running_forked w c (from w c a) e;
    }
